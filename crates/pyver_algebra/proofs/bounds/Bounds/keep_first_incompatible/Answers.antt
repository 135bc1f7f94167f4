use Rattle.std.proofs.Common.{◌≡◌, ℕ, ◌-◌, List, length, sym, ◌∙◌}
use Rattle.std.specs.Prelude.{◌&&◌, take}
use Rattle.std.proofs.lemmas.Result.{on_ok_weaker}
use Rattle.pyver_core.specs.Set.Admission.{matches_prefix}
use Rattle.pyver_core.specs.Version.Parts.{Parts}
use Rattle.pyver_algebra.specs.FirstTwo.{first_two}
use Rattle.pyver_algebra.specs.Limits.{is_between}
use Rattle.pyver_algebra.specs.Steps.{IsStepOf}
use Rattle.pyver_algebra.proofs.FirstTwoLemmas.{two_at_least}
use Rattle.pyver_algebra.proofs.bounds.Bounds.keep_first_incompatible.Goals as goal

pub returns-in-Some-Some : goal.returns-in-Some-Some
returns-in-Some-Some c =
    let m = c.in-Some-Some in
    let operand = c.args.operand.now in
    let whole = c.release-release.result.now in
    let prefix : List ℕ = take (length whole - 1) whole in
    let step : IsStepOf operand m.step = rw m.is-0 at c.in_ok-step_of.ensures in
    let outer : (v : Parts) → v.epoch ≡ 0 → is_between m.outer.begin m.outer.end v ≡ matches_prefix 0 prefix (first_two v) = rw m.is-1 at c.in_ok-outer.ensures in
    let none_is : 0 ≡ operand.epoch = sym c.if-epoch-ne0.false ∙ c.epoch.ensures in
    let front : (v : Parts) → matches_prefix 0 prefix v ≡ matches_prefix operand.epoch (take (length operand.release - 1) operand.release) v =
    λ v i. matches_prefix (none_is i) (take (length (c.release-release.ensures.value i) - 1) (c.release-release.ensures.value i)) v in
    on_ok_weaker c.keep_outside.result (λ keeps v none old is. keeps v old
    ((λ i. two_at_least operand v m.step step none i && (outer v none ∙ front (first_two v)) i) ∙ is)) c.keep_outside.ensures
