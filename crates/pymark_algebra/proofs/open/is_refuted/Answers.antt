use Rattle.std.proofs.Common.{Bool}
use Rattle.std.specs.Bool.{IsTrue}
use Rattle.std.proofs.lemmas.Result.{IfOk-weaker}
use Rattle.pymark_algebra.specs.Refuted.{IsRefuted, IsRefutedUnder}
use Rattle.pymark_algebra.proofs.PythonLemmas.{refuted_under}
use Rattle.pymark_algebra.proofs.open.is_refuted.Goals as goal

pub returns : goal.returns
returns c = IfOk-weaker c.is_refuted-5.result (λ (b : Bool). IsTrue b → IsRefuted c.args.clause.now)
    (λ (b : Bool). IsTrue b → IsRefutedUnder c.args.pythons.now c.args.clause.now)
    (λ b refuted is. refuted_under c.args.pythons.now c.args.clause.now (refuted is)) c.is_refuted-5.ensures
