use Rattle.std.proofs.Common.{◌≡◌, ◌++◌, flat_map, string_bytes, take}
use Rattle.pylock_environments.specs.Detail.{variable_words}
use Rattle.pylock_environments.proofs.shell.push_variables.Given as goal

abbrev pub invariant-loop-variable : goal.invariant-loop-variable
invariant-loop-variable l =
    string_bytes l.out ≡ string_bytes l.fn.out ++ flat_map (variable_words l.environment) (take l.variable-index l.variable-items)
