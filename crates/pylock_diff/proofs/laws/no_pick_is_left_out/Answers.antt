use Rattle.pylock_diff.proofs.StandLemmas.{all_values}
use Rattle.pylock_diff.proofs.laws.no_pick_is_left_out.Goals as goal

pub returns : goal.returns
returns c = λ state plan rises is. all_values state plan rises (c.picks_stand.ensures state plan is)
