use Rattle.pylock_shown.proofs.PlaceLaws.{plain_stays}
use Rattle.pylock_shown.proofs.laws.plain_texts_stay.Goals as goal

pub returns : goal.returns
returns c = plain_stays
