use Rattle.pylock_core.proofs.Lemmas.Tables.Index.{readers_rise}
use Rattle.pylock_core.proofs.laws.readers_rise.Goals as goal

pub returns : goal.returns
returns c = readers_rise
