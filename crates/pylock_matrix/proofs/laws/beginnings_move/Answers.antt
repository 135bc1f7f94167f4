use Rattle.pylock_matrix.proofs.MovingLemmas.{first_placed}
use Rattle.pylock_matrix.proofs.laws.beginnings_move.Goals as goal

pub returns : goal.returns
returns c = first_placed
