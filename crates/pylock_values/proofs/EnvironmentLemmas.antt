-- The record of an environment is the fields of its parts.
use Rattle.std.proofs.Common.{◌≡◌, ◌++◌, [], ℕ, List, Option, drop, sym, ap, ◌∙◌}
use Rattle.std.specs.Prelude.{codes}
use Rattle.std.specs.List.{flat_map}
use Rattle.std.proofs.lemmas.List.Concat.{flat_map-append}
use Rattle.pymark_core.specs.Environment.{AreNamesOf, EnvironmentValue}
use Rattle.pymark_core.specs.Variables.{variables}
use Rattle.pymark_core.specs.declared.variable.Var.{Var}
use Rattle.pylock_values.specs.Environments.{IsRecordOf, name_parts, parts_of, variable_parts}
use Rattle.pylock_values.specs.Record.{next_field}
use Rattle.pylock_values.proofs.RecordLemmas.{record_is}

-- the fields of three lists of parts, one behind the other
fields_are : (a b c : List (Option (List ℕ)))
    → (flat_map next_field a ++ flat_map next_field b) ++ flat_map next_field c ≡ flat_map next_field (a ++ b ++ c)
fields_are a b c =
    ap (λ (t : List ℕ). t ++ flat_map next_field c) (sym (flat_map-append next_field a b)) ∙ sym (flat_map-append next_field (a ++ b) c)

pub record_made : (environment : EnvironmentValue) (extras groups : List (List ℕ)) (all : List Var) (none first second third made : List ℕ)
    → AreNamesOf environment.extras extras → AreNamesOf environment.groups groups → none ≡ [] → all ≡ variables
    → first ≡ none ++ flat_map next_field (flat_map (variable_parts environment) all)
    → second ≡ first ++ flat_map next_field (name_parts (codes "extras") extras)
    → third ≡ second ++ flat_map next_field (name_parts (codes "dependency_groups") groups)
    → made ≡ drop 1 third → IsRecordOf environment made
record_made environment extras groups all none first second third made are_extras are_groups is_none is_all is_first is_second is_third is_made =
    let of_variables = flat_map (variable_parts environment) variables in
    let of_extras = name_parts (codes "extras") extras in
    let of_groups = name_parts (codes "dependency_groups") groups in
    record {
      extras = extras;
      groups = groups;
      are_extras = are_extras;
      are_groups = are_groups;
      is = is_made
          ∙ ap (drop 1) (
          is_third
          ∙ ap (λ (t : List ℕ). t ++ flat_map next_field of_groups) (
          is_second
          ∙ ap (λ (t : List ℕ). t ++ flat_map next_field of_extras) (
          is_first ∙ (λ i. is_none i ++ flat_map next_field (flat_map (variable_parts environment) (is_all i)))
          )
          )
          ∙ fields_are of_variables of_extras of_groups
          )
          ∙ record_is (parts_of environment extras groups);
    }
