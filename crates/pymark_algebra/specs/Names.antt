-- The names that literals want among the extras and groups that are asked for, or not among them
-- (PEP 751, `packages.marker`).
use Rattle.std.specs.Prelude.{◌≡◌, ℕ, Bool, not, List, Option, Some, None}
use Rattle.pyver_core.specs.Name.{normal_name}
use Rattle.pymark_core.specs.Environment.{EnvironmentValue, has_extra, has_group}
use Rattle.pymark_core.specs.declared.operand.Comparator.{Comparator}
use Rattle.pymark_core.specs.declared.operand.Comparator.TheVariants.{By, In, NotIn}
use Rattle.pymark_clauses.specs.Clauses.{ClauseHolds, LiteralHolds}
use Rattle.pymark_clauses.specs.declared.clauses.Literal.{Literal}
use Rattle.pymark_algebra.specs.declared.names.Asked.{Asked}
use Rattle.pymark_algebra.specs.declared.names.NameSet.{NameSet}
use Rattle.pymark_algebra.specs.declared.names.NameSet.TheVariants.{Extras, Groups}

-- whether the name is in the set
abbrev pub has_name : NameSet → List ℕ → EnvironmentValue → Bool
has_name Extras name environment = has_extra (normal_name name) environment
has_name Groups name environment = has_group (normal_name name) environment

-- what a comparison by `in` or `not in` with this value says of the name
abbrev pub is_in_by : Comparator → Bool → Option Bool
is_in_by In wanted = Some wanted
is_in_by NotIn wanted = Some (not wanted)
is_in_by (By operator) wanted = None

-- the environment asks for the name, or doesn't
abbrev pub HasAsked : EnvironmentValue → Asked → Type 0
HasAsked environment asked = has_name asked.set asked.name.now environment ≡ asked.is_in

-- wherever the literal holds
abbrev pub IsAskedBy : Literal → Asked → Type 0
IsAskedBy literal asked =
    (environment : EnvironmentValue) → LiteralHolds environment literal
    → HasAsked environment asked

-- nowhere where the environment does so does the literal hold
abbrev pub Contradicts : Literal → Asked → Type 0
Contradicts literal asked =
    (environment : EnvironmentValue) → HasAsked environment asked
    → LiteralHolds environment literal → ⊥

-- nor all of these
abbrev pub IsRefutedWith : Asked → List Literal → Type 0
IsRefutedWith asked clause =
    (environment : EnvironmentValue) → HasAsked environment asked
    → ClauseHolds environment clause → ⊥
