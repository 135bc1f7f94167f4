use Rattle.std.proofs.Common.{◌≡◌, ◌∙◌, false}
use Rattle.std.proofs.lemmas.Result.{on_ok_weaker}
use Rattle.pyver_core.specs.Set.Admission.{has_local}
use Rattle.pyver_algebra.proofs.AddLemmas.{above_past, no_segments, not_above_from}
use Rattle.pyver_algebra.proofs.bounds.Bounds.add_after.Goals as goal

pub returns-then-not-wanted : goal.returns-then-not-wanted
returns-then-not-wanted c =
    on_ok_weaker c.keep_until_longer.result (λ keeps w old is. keeps w old (not_above_from c.args.operand.now w (is ∙ c.if-not-wanted.true))) c.keep_until_longer.ensures

pub returns-then-is_empty : goal.returns-then-is_empty
returns-then-is_empty c =
    let v = c.args.operand.now in
    let none : has_local v ≡ false = no_segments v c.local.result.now c.is_empty.result c.local.ensures c.is_empty.ensures c.if-is_empty.true in
    let same : c.after.result.version ≡ v = c.after.ensures.version ∙ c.in_ok-clone.ensures.cases in
    on_ok_weaker c.keep_past.result (λ keeps w old is. keeps w old (above_past v w c.after.result same c.after.ensures.after none (is ∙ c.if-not-wanted.false))) c.keep_past.ensures
