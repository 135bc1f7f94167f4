use Rattle.pylock_shown.proofs.PlaceLaws.{user_is_hidden}
use Rattle.pylock_shown.proofs.laws.users_are_shown_alike.Goals as goal

pub returns : goal.returns
returns c = user_is_hidden
