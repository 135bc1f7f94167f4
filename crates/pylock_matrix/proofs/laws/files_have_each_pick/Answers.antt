use Rattle.pylock_matrix.proofs.PicksLemmas.{each_pick}
use Rattle.pylock_matrix.proofs.laws.files_have_each_pick.Goals as goal

pub returns : goal.returns
returns c = each_pick c.picks_stand.ensures
