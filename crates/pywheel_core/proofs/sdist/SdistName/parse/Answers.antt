use Rattle.pywheel_core.proofs.Lemmas.Sdist.Grammar.{given_no_sdist, given_sdist}
use Rattle.pywheel_core.proofs.sdist.SdistName.parse.Goals as goal

pub returns-clause-ok : goal.returns-clause-ok
returns-clause-ok c = given_sdist c.args.text.now c.read_sdist.result c.read_sdist.ensures

pub returns-clause-refused : goal.returns-clause-refused
returns-clause-refused c = given_no_sdist c.args.text.now c.read_sdist.result c.read_sdist.ensures
