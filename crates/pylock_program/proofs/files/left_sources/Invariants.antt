use Rattle.std.proofs.Common.{◌≡◌, ◌++◌, drop}
use Rattle.pylock_union.specs.Listed.{all_lent}
use Rattle.pylock_program.specs.Files.{left_sources}
use Rattle.pylock_program.proofs.files.left_sources.Given as goal

-- those of the sources that are left are still to be added
abbrev pub invariant-loop-source : goal.invariant-loop-source
invariant-loop-source l = all_lent l.left.items ++ left_sources l.options (all_lent (drop l.source-index l.list)) ≡ left_sources l.options (all_lent l.list)
