use Rattle.pytext.proofs.BoundaryLemmas.{strip_prefix_is}
use Rattle.pylock_exports.proofs.parts.behind.Goals as goal

pub returns : goal.returns
returns c = strip_prefix_is c.args.front.now c.args.text.now c.strip_prefix.result c.strip_prefix.ensures.cases
