use Rattle.pylock_core.proofs.Lemmas.Laws.{plan_stands}
use Rattle.pylock_core.proofs.laws.picks_stand.Goals as goal

pub returns : goal.returns
returns c = plan_stands c.one_best_wheel.ensures.stands
