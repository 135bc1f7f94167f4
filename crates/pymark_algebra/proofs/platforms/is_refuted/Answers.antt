use Rattle.std.proofs.Common.{Bool}
use Rattle.std.specs.Bool.{IsTrue}
use Rattle.std.proofs.lemmas.Result.{IfOk-weaker}
use Rattle.pymark_algebra.specs.Refuted.{IsRefuted, IsRefutedOn}
use Rattle.pymark_algebra.specs.declared.platform.Platform.TheVariants.{Other}
use Rattle.pymark_algebra.proofs.PlatformLemmas.{refuted_on_each}
use Rattle.pymark_algebra.proofs.platforms.is_refuted.Goals as goal

pub returns : goal.returns
returns c = IfOk-weaker c.is_refuted_on-4.result (λ (b : Bool). IsTrue b → IsRefutedOn Other c.args.clause.now)
    (λ (b : Bool). IsTrue b → IsRefuted c.args.clause.now)
    (λ b other is. refuted_on_each c.args.clause.now (c.in_ok-is_refuted_on.ensures c.if-not-branch.false)
    (c.in_ok-is_refuted_on-2.ensures c.if-not-branch-2.false) (c.in_ok-is_refuted_on-3.ensures c.if-not-branch-3.false) (other is))
    c.is_refuted_on-4.ensures
