use Rattle.pylock_shown.proofs.AgainLaws.{hidden_again}
use Rattle.pylock_shown.proofs.laws.shown_texts_stay.Goals as goal

pub returns : goal.returns
returns c = hidden_again
