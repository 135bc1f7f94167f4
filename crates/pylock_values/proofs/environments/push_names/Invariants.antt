use Rattle.std.proofs.Common.{◌≡◌, ◌++◌}
use Rattle.std.specs.List.{flat_map}
use Rattle.pylock_values.specs.Environments.{name_parts}
use Rattle.pylock_values.specs.Record.{next_field}
use Rattle.pylock_values.proofs.environments.push_names.Given as goal

abbrev pub invariant-loop-name : goal.invariant-loop-name
invariant-loop-name l =
    l.out.items ++ flat_map next_field (name_parts l.word l.name-iterator) ≡ l.fn.out.items ++ flat_map next_field (name_parts l.word l.fn.names)
