use Rattle.std.proofs.Common.{◌≡◌, ◌++◌, take}
use Rattle.std.specs.List.{concat, flat_map}
use Rattle.pylock_check.specs.Targets.{check_lines}
use Rattle.pylock_check.proofs.line.push_lines_of_targets.Given as goal

-- the lines of the targets so far are there
abbrev pub invariant-loop-check : goal.invariant-loop-check
invariant-loop-check l = l.out.items ≡ l.fn.out.items ++ flat_map (λ check. concat (check_lines check)) (take l.check-index l.checks)
