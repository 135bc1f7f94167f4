use Rattle.std.proofs.Common.{◌≡◌, length, take}
use Rattle.pylock_check.specs.Targets.{target_lines}
use Rattle.pylock_check.proofs.line.count_lines.Given as goal

-- the lines of the targets so far, and those of the head
abbrev pub invariant-loop-check : goal.invariant-loop-check
invariant-loop-check l = l.count ≡ length (target_lines l.of_head (take l.check-index l.checks))
