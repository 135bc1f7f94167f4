-- Comparisons of markers that installers read in two ways, so that they may answer otherwise on
-- some machine. By PEP 508, "Environment Markers", the two texts decide, whatever the variable:
-- they are compared as versions where the left one is a version and the right one an operand of
-- the operator, and as texts otherwise. `packaging` 26 asks the variable first: beside
-- `python_version`, `python_full_version`, `implementation_version` and `platform_release` an
-- operand is compared as a version, with which a value that is none never agrees, and beside any
-- other variable as a text.
use Rattle.std.specs.Prelude.{ℕ, Bool, true, false, ◌&&◌, ◌||◌, not, List, Option}
use Rattle.std.specs.Prelude.{Result, Ok, Err}
use Rattle.std.specs.Option.{option_map_or}
use Rattle.pyver_core.specs.Parsed.{parsed_operand}
use Rattle.pyver_core.specs.declared.set.error.SpecifierError.{SpecifierError}
use Rattle.pyver_core.specs.declared.set.error.SpecifierError.TheVariants as refused
use Rattle.pyver_core.specs.declared.set.specifier.Operator.{Operator}
use Rattle.pyver_core.specs.declared.set.specifier.Operator.TheVariants as operator
use Rattle.pyver_core.specs.declared.set.specifier.Specifier.{Specifier}
use Rattle.pymark_core.specs.Marker.Asked.{operand_variable, quoted_text}
use Rattle.pymark_core.specs.Marker.Comparison.{ComparisonValue}
use Rattle.pymark_core.specs.declared.operand.Comparator.{Comparator}
use Rattle.pymark_core.specs.declared.operand.Comparator.TheVariants.{By, In, NotIn}
use Rattle.pymark_core.specs.declared.variable.Var.{Var}
use Rattle.pymark_core.specs.declared.variable.Var.TheVariants as var

abbrev pub is_python_version : Var → Bool
is_python_version var.PythonVersion = true
is_python_version var.PythonFullVersion = true
is_python_version variable = false

-- a variable other than these two, whose value may be no version; `extra` is none
abbrev pub is_other_variable : Option Var → Bool
is_other_variable variable = option_map_or (λ v. not (is_python_version v)) variable false

-- a text follows the grammar of an operand, also where one of its numbers is past the limit
abbrev pub is_spelt : Result Specifier SpecifierError → Bool
is_spelt (Ok specifier) = true
is_spelt (Err refused.NumberTooLarge) = true
is_spelt (Err refusal) = false

-- a quoted text that is an operand of the operator
abbrev pub is_operand : Operator → Option (List ℕ) → Bool
is_operand by text = option_map_or (λ text. is_spelt (parsed_operand by text)) text false

abbrev pub is_equality : Operator → Bool
is_equality operator.Equal = true
is_equality operator.NotEqual = true
is_equality other = false

-- by `==` and `!=` a text that is no operand is a text to all; any other operator means one thing
-- of texts and another of versions
abbrev pub differs_by : Comparator → ComparisonValue → Bool
differs_by (By by) c =
    (is_other_variable (operand_variable c.left) || is_other_variable (operand_variable c.right))
    && (not (is_equality by) || is_operand by (quoted_text c.left)
    || is_operand by (quoted_text c.right))
differs_by In c = false
differs_by NotIn c = false

abbrev pub differs : ComparisonValue → Bool
differs c = differs_by c.comparator c
