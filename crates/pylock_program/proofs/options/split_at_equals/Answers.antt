use Rattle.std.proofs.Common.{arith}
use Rattle.pywheel_core.proofs.Lemmas.Texts.Cuts.{split_once_is}
use Rattle.pylock_program.proofs.options.split_at_equals.Goals as goal

pub returns : goal.returns
returns c = split_once_is 61 c.args.text.now c.split_once.result (c.split_once.ensures.byte (omega arith) (λ w o f. f))
