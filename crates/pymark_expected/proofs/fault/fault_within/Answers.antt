use Rattle.std.proofs.Common.{◌≡◌, ◌<◌, ◌≤◌, ◌+◌, ◌-◌, ◌∙◌, ℕ, List, length, drop, arith, ap, sym, subst}
use Rattle.std.proofs.lemmas.List.{length-drop}
use Rattle.std.specs.Str.{IsCharBoundary}
use Rattle.pymark_expected.proofs.StretchLemmas.{end_of_drop, end_whole, floor_is, place_within}
use Rattle.pymark_expected.proofs.fault.fault_within.Goals as goal
use Rattle.pymark_expected.specs.Stretch.{EndsWith}

pub returns-clause-end : goal.returns-clause-end
returns-clause-end c = λ ends stretch.
    let text = c.args.text.now in
    let place = length text - length c.args.end.now + c.args.fault.end in
    let at = place_within text c.args.end.now c.args.fault.end ends stretch.end in
    let sum : c.saturating_add-2.result ≡ place = omega (arith, c.saturating_sub-before.ensures, c.saturating_add-2.ensures) in
    let r = c.floor_char_boundary-2.result in
    let nearest : (i : ℕ) → r < i → i ≤ place → IsCharBoundary text i → ⊥ = λ i more le cut. c.floor_char_boundary-2.ensures.nearest i more (omega (arith, sum, le)) cut in
    let floor : r ≡ place = floor_is text place r at (omega (arith, sum, c.floor_char_boundary-2.ensures.bound)) nearest in
    let back : c.split_at-2.result.1.now ≡ drop place text = c.split_at-2.ensures.back ∙ ap (λ (n : ℕ). drop n text) floor in
    let ended : EndsWith text c.split_at-2.result.1.now = subst (EndsWith text) (sym back) (end_of_drop text text place (end_whole text)) in
    let long = length-drop place text in
    let far = at.0 in
    c.fault_between.ensures.end ended ∙ ap (λ (e : List ℕ). length text - length e) back ∙ omega (arith, long, far)
