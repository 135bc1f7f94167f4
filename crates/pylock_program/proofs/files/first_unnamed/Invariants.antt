use Rattle.std.proofs.Common.{◌≡◌, drop, find, not}
use Rattle.pylock_program.specs.Files.{names_some}
use Rattle.pylock_program.specs.Inner.Files.{reads_view}
use Rattle.pylock_program.proofs.files.first_unnamed.Given as goal

-- the first of those that are left is the first of all
abbrev pub invariant-loop-option : goal.invariant-loop-option
invariant-loop-option l =
    find (λ option. not (names_some (reads_view l.locks) option)) (drop l.option-index l.options)
    ≡ find (λ option. not (names_some (reads_view l.locks) option)) l.options
