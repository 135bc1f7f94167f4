use Rattle.pywheel_core.proofs.Lemmas.Sdist.Grammar.{sdist_made}
use Rattle.pywheel_core.proofs.laws.sdist_of_is_complete.Goals as goal

pub returns : goal.returns
returns c = sdist_made
