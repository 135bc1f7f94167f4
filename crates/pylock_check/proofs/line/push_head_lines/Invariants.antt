use Rattle.std.proofs.Common.{◌≡◌, ◌++◌, take}
use Rattle.std.specs.List.{flat_map}
use Rattle.pylock_check.specs.Targets.{head_line}
use Rattle.pylock_check.proofs.line.push_head_lines.Given as goal

-- the lines of the differences so far are there
abbrev pub invariant-loop-difference : goal.invariant-loop-difference
invariant-loop-difference l = l.out.items ≡ l.fn.out.items ++ flat_map head_line (take l.difference-index l.of_head)
