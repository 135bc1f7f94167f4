use Rattle.std.proofs.Common.{◌≡◌, ◌+◌, ◌++◌, drop}
use Rattle.pylock_union.specs.Listed.{all_lent}
use Rattle.pylock_program.specs.Files.{listed_from}
use Rattle.pylock_program.specs.Inner.Files.{reads_view}
use Rattle.pylock_program.proofs.files.listed.Given as goal

-- the sources of the locks that are left are still to be added
abbrev pub invariant-loop-place : goal.invariant-loop-place
invariant-loop-place l = all_lent l.list.items ++ listed_from (l.place + 1) (reads_view (drop l.place l.locks)) ≡ listed_from 1 (reads_view l.locks)
