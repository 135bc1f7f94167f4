use Rattle.std.proofs.Common.{arith}
use Rattle.pywheel_core.proofs.Lemmas.Texts.Cuts.{split_once_is}
use Rattle.pywheel_core.proofs.target.reading.cut_at_underscore.Goals as goal

pub returns : goal.returns
returns c = split_once_is 95 c.args.text.now c.split_once.result (c.split_once.ensures.byte (omega arith) (λ w o f. f))
