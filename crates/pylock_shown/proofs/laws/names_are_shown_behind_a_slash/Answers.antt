use Rattle.pylock_shown.proofs.MarkLemmas.{behind_slash}
use Rattle.pylock_shown.proofs.laws.names_are_shown_behind_a_slash.Goals as goal

pub returns : goal.returns
returns c = behind_slash
