use Rattle.pywheel_core.proofs.Lemmas.Texts.LastCut.{last_cut_is}
use Rattle.pywheel_core.proofs.cut.last_cut.Goals as goal

pub returns : goal.returns
returns c = last_cut_is c.args.text.now c.rsplit_once.result c.rsplit_once.ensures.cases
