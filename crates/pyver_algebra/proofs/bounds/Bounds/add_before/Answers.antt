use Rattle.std.proofs.Common.{◌≡◌, ◌∙◌}
use Rattle.std.proofs.lemmas.Result.{on_ok_weaker}
use Rattle.pyver_algebra.proofs.AddLemmas.{below_past, final_from, not_below_from, not_below_past}
use Rattle.pyver_algebra.proofs.bounds.Bounds.add_before.Goals as goal

pub returns-then-is_final : goal.returns-then-is_final
returns-then-is_final c =
    on_ok_weaker c.keep_from_first.result (λ keeps w old is. keeps w old (final_from c.args.operand.now w c.args.wanted (c.is_final.ensures c.if-is_final.true) is)) c.keep_from_first.ensures

pub returns-then-wanted : goal.returns-then-wanted
returns-then-wanted c =
    let v = c.args.operand.now in
    let same : c.before-then-wanted.result.version ≡ v = c.before-then-wanted.ensures.version ∙ c.in_ok-clone.ensures.cases in
    on_ok_weaker c.keep_past.result (λ keeps w old is. keeps w old (below_past v w c.before-then-wanted.result same c.before-then-wanted.ensures.after (is ∙ c.if-wanted.true))) c.keep_past.ensures

pub returns-then-is_public_prerelease : goal.returns-then-is_public_prerelease
returns-then-is_public_prerelease c =
    let v = c.args.operand.now in
    let parts = c.is_public_prerelease.ensures c.if-is_public_prerelease.true in
    let cut = c.before-then-is_public_prerelease in
    on_ok_weaker c.keep_past-then-is_public_prerelease.result (λ keeps w old is. keeps w old (not_below_past v w cut.result (cut.ensures.version ∙ c.in_ok-clone-2.ensures.cases) cut.ensures.after parts.0 parts.1 (is ∙ c.if-wanted.false))) c.keep_past-then-is_public_prerelease.ensures

pub returns : goal.returns
returns c =
    on_ok_weaker c.keep_from_first-2.result (λ keeps w old is. keeps w old (not_below_from c.args.operand.now w (is ∙ c.if-wanted.false))) c.keep_from_first-2.ensures
