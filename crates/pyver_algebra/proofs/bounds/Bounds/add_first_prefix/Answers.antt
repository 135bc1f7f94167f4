use Rattle.std.proofs.Common.{◌≡◌, ℕ, sym, ap, ◌∙◌}
use Rattle.std.proofs.lemmas.Result.{on_ok_weaker}
use Rattle.pyver_core.specs.Set.Admission.{matches_prefix}
use Rattle.pyver_core.specs.Version.Parts.{Parts}
use Rattle.pyver_algebra.specs.FirstTwo.{first_two}
use Rattle.pyver_algebra.specs.Limits.{is_between}
use Rattle.pyver_algebra.proofs.bounds.Bounds.add_first_prefix.Goals as goal

pub returns-in-Some : goal.returns-in-Some
returns-in-Some c =
    let release = c.args.release.now in
    let step : (v : Parts) → v.epoch ≡ 0 → is_between c.in-Some.step.begin c.in-Some.step.end v ≡ matches_prefix 0 release (first_two v) =
    rw c.in-Some.is at c.in_ok-step.ensures in
    on_ok_weaker c.keep_between.result (λ keeps v none old is. keeps v old
    (step v none ∙ ap (λ (n : ℕ). matches_prefix n release (first_two v)) (sym c.if-epoch-ne0.false) ∙ is)) c.keep_between.ensures
