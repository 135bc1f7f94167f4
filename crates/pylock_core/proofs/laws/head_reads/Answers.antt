use Rattle.pylock_core.proofs.Lemmas.Judging.Verdict.{head_same}
use Rattle.pylock_core.proofs.laws.head_reads.Goals as goal

pub returns : goal.returns
returns c = head_same c.marker_reads.ensures
