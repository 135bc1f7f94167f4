-- An environment as a record (PEP 508, "Environment Markers"; PEP 751, "Installation").
use Rattle.std.specs.Prelude.{◌≡◌, ℕ, ◌++◌, List, [], ◌∷◌, codes, Option, Some, None}
use Rattle.std.specs.List.{flat_map}
use Rattle.pymark_core.specs.Environment.{AreNamesOf, EnvironmentValue, variable_in}
use Rattle.pymark_core.specs.Variables.{variable_name, variables}
use Rattle.pymark_core.specs.declared.variable.Var.{Var}
use Rattle.pylock_values.specs.Record.{record_of}

-- a word, and a text that stands for it
abbrev pub pair : List ℕ → List ℕ → List (Option (List ℕ))
pair word text = Some word ∷ Some text ∷ []

-- the same of a text that there may be
abbrev pub pair_of : List ℕ → Option (List ℕ) → List (Option (List ℕ))
pair_of word None = []
pair_of word (Some text) = pair word text

-- a variable that is set is its name and its text
abbrev pub variable_parts : EnvironmentValue → Var → List (Option (List ℕ))
variable_parts environment variable =
    pair_of (variable_name variable) (variable_in variable environment)

-- a name that is asked for is the word of its set and itself
abbrev pub name_parts : List ℕ → List (List ℕ) → List (Option (List ℕ))
name_parts word names = flat_map (pair word) names

abbrev pub parts_of : EnvironmentValue → List (List ℕ) → List (List ℕ) → List (Option (List ℕ))
parts_of environment extras groups =
    flat_map (variable_parts environment) variables
    ++ name_parts (codes "extras") extras ++ name_parts (codes "dependency_groups") groups

-- a text is the record of an environment: of its variables, and of the names of both sets
pub record IsRecordOf (environment : EnvironmentValue) (text : List ℕ) : Type 0 where
  pub extras : List (List ℕ)
  pub groups : List (List ℕ)
  pub are_extras : AreNamesOf environment.extras extras
  pub are_groups : AreNamesOf environment.groups groups
  pub is : text ≡ record_of (parts_of environment extras groups)
