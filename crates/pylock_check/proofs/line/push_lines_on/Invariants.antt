use Rattle.std.proofs.Common.{◌≡◌, ◌++◌, take}
use Rattle.std.specs.List.{flat_map}
use Rattle.pylock_check.specs.Targets.{line_on}
use Rattle.pylock_check.proofs.line.push_lines_on.Given as goal

-- the lines of the differences so far are there
abbrev pub invariant-loop-difference : goal.invariant-loop-difference
invariant-loop-difference l = l.out.items ≡ l.fn.out.items ++ flat_map (line_on l.cell) (take l.difference-index l.found)
