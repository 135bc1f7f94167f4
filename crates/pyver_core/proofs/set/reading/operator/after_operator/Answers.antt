use Rattle.pytext.proofs.BoundaryLemmas.{strip_prefix_is}
use Rattle.pyver_core.proofs.set.reading.operator.after_operator.Goals as goal

pub returns : goal.returns
returns c = rw (← c.as_str.ensures) (strip_prefix_is c.as_str.result.now c.args.text.now c.strip_prefix.result c.strip_prefix.ensures.cases)
