use Rattle.std.proofs.Common.{◌≡◌, ◌+◌, drop}
use Rattle.std.specs.List.{list_any}
use Rattle.pylock_core.specs.Session.State.{in_rows}
use Rattle.pylock_program.specs.PlanOptions.{is_named}
use Rattle.pylock_program.proofs.options.has_entry.Given as goal

-- the entries that are left have the name where one of all has it
abbrev pub invariant-loop-entry : goal.invariant-loop-entry
invariant-loop-entry l =
    list_any (λ entry. is_named l.name entry.1) (in_rows (l.entry-index + 1) (drop l.entry-index l.entry-items))
    ≡ list_any (λ entry. is_named l.name entry.1) (in_rows 1 l.entry-items)
