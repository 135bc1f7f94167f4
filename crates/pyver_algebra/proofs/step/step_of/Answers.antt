use Rattle.std.proofs.Common.{◌≡◌, ℕ, ◌+◌, [], ◌∷◌, ◌∙◌, sym, ap, arith}
use Rattle.std.specs.Prelude.{if◌then◌else◌}
use Rattle.pyver_core.specs.Version.Order.{release_cmp}
use Rattle.pyver_core.specs.Version.Parts.{base_release}
use Rattle.pyver_algebra.specs.Firsts.{first_of}
use Rattle.pyver_algebra.proofs.FirstTwoLemmas.{are_zeros, is_step, least_second}
use Rattle.pyver_algebra.proofs.step.step_of.Goals as goal

pub returns-in-Some-Some : goal.returns-in-Some-Some
returns-in-Some-Some c =
    let v = c.args.operand.now in
    let a = c.in-Some.major in
    let b = c.in-Some.minor in
    let more = c.in-Some.behind.now in
    let m = c.in-Some-Some in
    let final : v ≡ base_release v = c.is_final.ensures c.if-not-is_final.false in
    let epoch : v.epoch ≡ 0 = sym c.epoch.ensures ∙ c.if-epoch-ne0.false in
    let next : c.in-Some-checked_add.next ≡ b + 1 = omega (arith, c.in-Some-checked_add.ensures) in
    let least : c.least_second-least.result ≡ least_second b more =
    c.least_second-least.ensures ∙ ap (λ (n : ℕ). if are_zeros more then b else n) next in
    let low : m.begin ≡ first_of 0 c.in_ok-from_array.field-0.items = rw m.is-0 at c.in_ok-begin.ensures in
    let high : m.end ≡ first_of 0 c.in_ok-from_array-2.field-0.items = rw m.is-1 at c.in_ok-end.ensures in
    let low_items : c.in_ok-from_array.field-0.items ≡ a ∷ least_second b more ∷ [] = c.in_ok-from_array.ensures.items ∙ ap (λ (n : ℕ). a ∷ n ∷ []) least in
    let high_items : c.in_ok-from_array-2.field-0.items ≡ a ∷ (b + 1) ∷ [] = c.in_ok-from_array-2.ensures.items ∙ ap (λ (n : ℕ). a ∷ n ∷ []) next in
    is_step v _ a b more final epoch (λ x. ap (release_cmp x) (sym c.release.ensures.value) ∙ c.in-Some.ensures x)
    (c.before-in-Some-Some.ensures.version ∙ low ∙ ap (first_of 0) low_items) c.before-in-Some-Some.ensures.after
    (c.before-in-Some-Some-2.ensures.version ∙ high ∙ ap (first_of 0) high_items) c.before-in-Some-Some-2.ensures.after
