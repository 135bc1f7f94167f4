use Rattle.std.proofs.Common.{length}
use Rattle.pymark_expected.proofs.extras.behind_commas.Given as goal

abbrev pub decreases-loop-further : goal.decreases-loop-further
decreases-loop-further l = length l.rest
