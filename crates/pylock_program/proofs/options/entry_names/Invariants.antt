use Rattle.std.proofs.Common.{◌≡◌, ◌+◌, ◌++◌, drop, map}
use Rattle.pyver_core.specs.Name.{normal_name}
use Rattle.pylock_core.specs.Session.State.{in_rows}
use Rattle.pylock_program.proofs.options.entry_names.Given as goal

-- the entries that are left have the names that are missing
abbrev pub invariant-loop-entry : goal.invariant-loop-entry
invariant-loop-entry l =
    l.names.items ++ map (λ entry. normal_name entry.1.name) (in_rows (l.entry-index + 1) (drop l.entry-index l.entry-items))
    ≡ map (λ entry. normal_name entry.1.name) (in_rows 1 l.entry-items)
