use Rattle.std.proofs.Common.{arith}
use Rattle.pylock_command.proofs.BaseLemmas.{around_equals_is}
use Rattle.pylock_command.proofs.base.around_equals.Goals as goal

pub returns : goal.returns
returns c = around_equals_is c.args.text.now c.split_once.result (c.split_once.ensures.byte (omega arith) (λ w o f. f))
