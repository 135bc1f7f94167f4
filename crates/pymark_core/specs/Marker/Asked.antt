-- What a comparison asks for: the value `extra`, which a lock doesn't have, or a name among those
-- that are asked for (PEP 751, `packages.marker`).
use Rattle.std.specs.Prelude.{ℕ, Bool, false, true, ◌||◌, List, Option, Some, None, if◌then◌else◌}
use Rattle.std.specs.List.{list_any}
use Rattle.pymark_core.specs.Marker.Comparison.{ComparisonValue}
use Rattle.pymark_core.specs.Marker.Grammar.{comparisons, is_operator}
use Rattle.pymark_core.specs.Marker.Tree.{Tree}
use Rattle.pymark_core.specs.declared.operand.Operand.{Operand}
use Rattle.pymark_core.specs.declared.operand.Operand.TheVariants.{Text, Extra, Extras, Groups}
use Rattle.pymark_core.specs.declared.operand.Operand.TheVariants.{Variable}
use Rattle.pymark_core.specs.declared.variable.Var.{Var}

abbrev pub is_extra : Operand → Bool
is_extra Extra = true
is_extra operand = false

-- `extra` is one of the operands
abbrev pub comparison_reads_extra : ComparisonValue → Bool
comparison_reads_extra c = is_extra c.left || is_extra c.right

-- `extra` is an operand somewhere in the tree
abbrev pub reads_extra : Tree → Bool
reads_extra tree = list_any comparison_reads_extra (comparisons tree)

-- the variable that an operand is
abbrev pub operand_variable : Operand → Option Var
operand_variable (Variable variable) = Some variable
operand_variable operand = None

abbrev pub quoted_text : Operand → Option (List ℕ)
quoted_text (Text text) = Some text
quoted_text operand = None

-- the quoted text left of `in` or `not in`
abbrev pub text_asked : ComparisonValue → Option (List ℕ)
text_asked c = if is_operator c.comparator then None else quoted_text c.left

-- that text, where `extras` stands on the right
abbrev pub asked_of_extras : Operand → Option (List ℕ) → Option (List ℕ)
asked_of_extras Extras text = text
asked_of_extras operand text = None

abbrev pub extra_asked : ComparisonValue → Option (List ℕ)
extra_asked c = asked_of_extras c.right (text_asked c)

-- that text, where `dependency_groups` stands on the right
abbrev pub asked_of_groups : Operand → Option (List ℕ) → Option (List ℕ)
asked_of_groups Groups text = text
asked_of_groups operand text = None

abbrev pub group_asked : ComparisonValue → Option (List ℕ)
group_asked c = asked_of_groups c.right (text_asked c)
