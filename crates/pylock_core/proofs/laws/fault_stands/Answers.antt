use Rattle.pylock_core.proofs.Lemmas.Laws.{fault_is}
use Rattle.pylock_core.proofs.laws.fault_stands.Goals as goal

pub returns : goal.returns
returns c = fault_is c.one_best_wheel.ensures.stands
