use Rattle.pylock_core.proofs.Lemmas.Judging.Verdict.{entry_same}
use Rattle.pylock_core.proofs.laws.entry_reads.Goals as goal

pub returns : goal.returns
returns c = entry_same c.marker_reads.ensures
