use Rattle.pylock_values.proofs.PartsLemmas.{same_without}
use Rattle.pylock_values.proofs.laws.zeros_at_the_end_go.Goals as goal

pub returns : goal.returns
returns c = same_without
