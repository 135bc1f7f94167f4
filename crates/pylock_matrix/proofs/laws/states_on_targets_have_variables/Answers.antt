use Rattle.pylock_matrix.proofs.MovingLemmas.{placed_has}
use Rattle.pylock_matrix.proofs.laws.states_on_targets_have_variables.Goals as goal

pub returns : goal.returns
returns c = placed_has
