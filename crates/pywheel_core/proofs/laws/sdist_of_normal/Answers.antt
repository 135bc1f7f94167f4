use Rattle.pywheel_core.proofs.Lemmas.Sdist.Normal.{sdist_normal}
use Rattle.pywheel_core.proofs.laws.sdist_of_normal.Goals as goal

pub returns : goal.returns
returns c = sdist_normal
