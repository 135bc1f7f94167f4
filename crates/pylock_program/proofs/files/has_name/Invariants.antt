use Rattle.std.proofs.Common.{◌≡◌, drop}
use Rattle.std.specs.List.{list_any}
use Rattle.pylock_program.specs.Inner.Files.{reads_view}
use Rattle.pylock_program.specs.PlanOptions.{is_named}
use Rattle.pylock_program.proofs.files.has_name.Given as goal

-- one of the locks that are left has the name where one of all has it
abbrev pub invariant-loop-lock : goal.invariant-loop-lock
invariant-loop-lock l =
    list_any (λ lock. list_any (is_named l.name) lock.0.entries) (reads_view (drop l.lock-index l.locks))
    ≡ list_any (λ lock. list_any (is_named l.name) lock.0.entries) (reads_view l.locks)
