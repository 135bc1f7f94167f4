use Rattle.pylock_check.proofs.ChainLemmas.{none_returns}
use Rattle.pylock_check.proofs.laws.no_group_includes_itself.Goals as goal

pub returns : goal.returns
returns c = none_returns
