use Rattle.std.proofs.Common.{length}
use Rattle.pyver_algebra.proofs.near.lowered.Given as goal

abbrev pub decreases-loop-last : goal.decreases-loop-last
decreases-loop-last l = length l.front
