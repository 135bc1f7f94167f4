use Rattle.std.proofs.Common.{◌≡◌, ◌++◌, take}
use Rattle.std.specs.List.{flat_map}
use Rattle.pylock_values.specs.Environments.{variable_parts}
use Rattle.pylock_values.specs.Record.{next_field}
use Rattle.pylock_values.proofs.environments.push_variables.Given as goal

abbrev pub invariant-loop-variable : goal.invariant-loop-variable
invariant-loop-variable l =
    l.out.items ≡ l.initial.out.items ++ flat_map next_field (flat_map (variable_parts l.environment) (take l.variable-index l.variables))
