use Rattle.std.proofs.Common.{◌≡◌, ◌≤◌, length}
use Rattle.pyver_core.specs.Name.{normal_name}
use Rattle.pyver_core.proofs.name.same.first_normal_byte.Given as goal

abbrev pub invariant-loop-left : goal.invariant-loop-left
invariant-loop-left l = record { same : normal_name l.left ≡ normal_name l.text; within : length l.left ≤ length l.text }

abbrev pub decreases-loop-left : goal.decreases-loop-left
decreases-loop-left l = length l.left
