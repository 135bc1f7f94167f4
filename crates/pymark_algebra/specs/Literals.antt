-- What is shown of the comparisons of a marker, where they have a value.
use Rattle.std.specs.Prelude.{◌≡◌, ◌⊎◌, ℕ, Bool, false, true, List, None, Ok, Some}
use Rattle.pyver_core.specs.declared.set.specifier.Operator.{Operator}
use Rattle.pyver_core.specs.declared.set.specifier.Operator.TheVariants.{Equal, NotEqual}
use Rattle.pyver_core.specs.Version.Reading.{version_of}
use Rattle.pymark_core.specs.Environment.{EnvironmentValue, variable_in}
use Rattle.pymark_core.specs.Marker.Comparison.{ComparisonValue}
use Rattle.pymark_core.specs.Marker.Value.{comparison_value, value_against}
use Rattle.pymark_core.specs.declared.operand.Comparator.{Comparator}
use Rattle.pymark_core.specs.declared.operand.Operand.TheVariants.{Text, Variable}
use Rattle.pymark_core.specs.declared.variable.Var.{Var}
use Rattle.pymark_clauses.specs.Clauses.{LiteralHolds}
use Rattle.pymark_clauses.specs.declared.clauses.Literal.{Literal}
use Rattle.pymark_algebra.specs.declared.text.Told.{Told}

-- a text against a quoted one has this value
abbrev pub IsAgainstQuoted : List ℕ → Comparator → List ℕ → Bool → Type 0
IsAgainstQuoted text comparator right value =
    (environment : EnvironmentValue)
    → value_against None environment false text comparator (Text right) ≡ Ok value

-- a quoted text against a variable that has this text has this value
abbrev pub IsOfQuoted : List ℕ → Comparator → List ℕ → Bool → Type 0
IsOfQuoted left comparator text value =
    (variable : Var) (environment : EnvironmentValue)
    → variable_in variable environment ≡ Some text
    → value_against None environment false left comparator (Variable variable) ≡ Ok value

-- wherever the variable has this text the comparison has this value
abbrev pub HasAt : Var → List ℕ → ComparisonValue → Bool → Type 0
HasAt variable text comparison value =
    (environment : EnvironmentValue) → variable_in variable environment ≡ Some text
    → comparison_value None environment comparison ≡ Ok value

-- nowhere where the variable has this text does the literal hold
abbrev pub IsNeverAt : Var → List ℕ → Literal → Type 0
IsNeverAt variable text literal =
    (environment : EnvironmentValue) → variable_in variable environment ≡ Some text
    → LiteralHolds environment literal → ⊥

-- texts are the same that have this value by the operator: equal, or not unequal
abbrev pub IsEquation : Operator → Bool → Type 0
IsEquation operator wanted =
    ((operator ≡ Equal) × (wanted ≡ true)) ⊎ ((operator ≡ NotEqual) × (wanted ≡ false))

-- wherever the literal holds the variable has the text, which spells no version
pub record IsTold (told : Told) (literal : Literal) : Type 0 where
  pub spells : version_of told.text.now ≡ None
  pub has : (environment : EnvironmentValue) → LiteralHolds environment literal
      → variable_in told.variable environment ≡ Some told.text.now
