use Rattle.pylock_core.proofs.Lemmas.Tables.Index.{touched_rises}
use Rattle.pylock_core.proofs.laws.touched_rises.Goals as goal

pub returns : goal.returns
returns c = touched_rises
