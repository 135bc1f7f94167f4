use Rattle.std.proofs.Common.{◌≡◌, true, sym, ◌∙◌}
use Rattle.std.proofs.lemmas.Result.{on_ok_weaker}
use Rattle.pyver_algebra.specs.Limits.{is_at_or_before}
use Rattle.pyver_algebra.proofs.LimitLemmas.{outside_of}
use Rattle.pyver_algebra.proofs.bounds.Bounds.keep_outside.Goals as goal

pub returns : goal.returns
returns c =
    let first : is_at_or_before c.args.step.begin c.args.low ≡ true = sym c.is_at_or_before.ensures ∙ c.if-not-is_at_or_before.false in
    on_ok_weaker c.keep.result (λ keeps v old is. keeps v old (outside_of c.args.low c.args.step.begin c.args.step.end v first is)) c.keep.ensures
