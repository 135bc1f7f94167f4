use Rattle.pytext.proofs.WhiteLemmas.{trim_white_is}
use Rattle.pytext.proofs.laws.trim_white_leaves_none_round_it.Goals as goal

pub returns : goal.returns
returns c = trim_white_is
