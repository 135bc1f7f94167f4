-- The environment that markers are judged in (PEP 508, "Environment Markers"): a text for each
-- variable that has one, and the extras and dependency groups that are asked for (PEP 751,
-- "Installation").
use Rattle.std.specs.Prelude.{◌≡◌, ℕ, Bool, IsTrue, List, Option, Some, None, replicate}
use Rattle.std.specs.Prelude.{slice_index_or, slice_set, refl}
use Rattle.std.specs.Cmp.Lexicographic.{slice_cmp}
use Rattle.std.specs.Coded.{Coded, code_by, coded×, coded_ℕ, coded_list, coded_option}
use Rattle.std.specs.FinSet as set
use Rattle.std.specs.List.Sorted.{IsStrictlySortedBy}
use Rattle.std.specs.Ordering.{nat_cmp}
use Rattle.pyver_core.specs.Name.{normal_name}
use Rattle.pymark_core.specs.Variables.{variable_number}
use Rattle.pymark_core.specs.declared.variable.Var.{Var}

-- a finite set of texts
abbrev pub Texts : Type 0
Texts = set.FinSet (slice_cmp nat_cmp)

abbrev texts_code : Coded Texts
texts_code = set.code (coded_list coded_ℕ)

-- each is in normal form
abbrev pub AreNormal : Texts → Type 0
AreNormal names = (name : List ℕ) → IsTrue (set.contains names name) → normal_name name ≡ name

-- these are the names of the set, each once, in the order of their bytes
pub record AreNamesOf (texts : Texts) (names : List (List ℕ)) : Type 0 where
  pub whole : set.from_list names ≡ texts
  pub rise : IsStrictlySortedBy (slice_cmp nat_cmp) names

-- `variables` has the text of each variable at its number, and the sets hold normal names
pub record EnvironmentValue : Type 0 where
  pub variables : List (Option (List ℕ))
  pub extras : Texts
  pub groups : Texts

-- an environment is stored as the tuple of its fields
abbrev pub environment_code : Coded EnvironmentValue
environment_code =
    code_by (List (Option (List ℕ)) × (Texts × Texts))
    (coded× (coded_list (coded_option (coded_list coded_ℕ))) (coded× texts_code texts_code))
    (λ e. (e.variables, (e.extras, e.groups)))
    (λ t. record { variables = t.0; extras = t.1.0; groups = t.1.1 })
    (λ _. refl)

-- nothing set, nothing asked for
abbrev pub empty_environment : EnvironmentValue
empty_environment = record { variables = replicate 11 None; extras = set.empty; groups = set.empty }

-- the text of a variable
abbrev pub variable_in : Var → EnvironmentValue → Option (List ℕ)
variable_in variable environment =
    slice_index_or environment.variables (variable_number variable) None

abbrev pub with_variable : Var → List ℕ → EnvironmentValue → EnvironmentValue
with_variable variable text environment =
    record environment {
      variables = slice_set environment.variables (variable_number variable) (Some text);
    }

abbrev pub without_variable : Var → EnvironmentValue → EnvironmentValue
without_variable variable environment =
    record environment {
      variables = slice_set environment.variables (variable_number variable) None;
    }

-- whether this very text is among the extras
abbrev pub has_extra : List ℕ → EnvironmentValue → Bool
has_extra name environment = set.contains environment.extras name

abbrev pub with_extra : List ℕ → EnvironmentValue → EnvironmentValue
with_extra name environment =
    record environment { extras = set.insert environment.extras (normal_name name) }

abbrev pub without_extra : List ℕ → EnvironmentValue → EnvironmentValue
without_extra name environment =
    record environment { extras = set.remove environment.extras (normal_name name) }

-- whether this very text is among the groups
abbrev pub has_group : List ℕ → EnvironmentValue → Bool
has_group name environment = set.contains environment.groups name

abbrev pub with_group : List ℕ → EnvironmentValue → EnvironmentValue
with_group name environment =
    record environment { groups = set.insert environment.groups (normal_name name) }

abbrev pub without_group : List ℕ → EnvironmentValue → EnvironmentValue
without_group name environment =
    record environment { groups = set.remove environment.groups (normal_name name) }
