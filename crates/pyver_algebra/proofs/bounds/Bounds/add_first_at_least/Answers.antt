use Rattle.std.proofs.Common.{◌∙◌}
use Rattle.std.proofs.lemmas.Result.{on_ok_weaker}
use Rattle.pyver_algebra.specs.Steps.{IsStepOf}
use Rattle.pyver_algebra.proofs.FirstTwoLemmas.{two_at_least}
use Rattle.pyver_algebra.proofs.bounds.Bounds.add_first_at_least.Goals as goal

pub returns-in-Some : goal.returns-in-Some
returns-in-Some c =
    let step : IsStepOf c.args.operand.now c.in-Some.step = rw c.in-Some.is at c.in_ok-step.ensures in
    on_ok_weaker c.keep_past.result (λ keeps v none old is. keeps v old (two_at_least c.args.operand.now v c.in-Some.step step none ∙ is)) c.keep_past.ensures
