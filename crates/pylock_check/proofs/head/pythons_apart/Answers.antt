use Rattle.std.proofs.lemmas.Result.{IfOk-weaker}
use Rattle.pylock_check.proofs.head.pythons_apart.Goals as goal

pub returns : goal.returns
returns c = IfOk-weaker c.told.result _ _ (λ list same. (c.in_ok-answer.answer, c.in_ok-answer.ensures, same)) c.told.ensures
