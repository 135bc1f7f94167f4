use Rattle.std.proofs.Common.{◌≡◌, ◌<◌, ◌≤◌, ◌-◌, ℕ, length, arith}
use Rattle.std.specs.Str.{IsCharBoundary}
use Rattle.pymark_expected.proofs.StretchLemmas.{end_place}
use Rattle.pymark_expected.proofs.fault.fault_between.Goals as goal

pub returns-clause-end : goal.returns-clause-end
returns-clause-end c = λ ends.
    let text = c.args.text.now in
    let place = length text - length c.args.to.now in
    let r = c.floor_char_boundary-end.result in
    let is : c.saturating_sub.result ≡ place = omega (arith, c.saturating_sub.ensures) in
    let nearest : (i : ℕ) → r < i → i ≤ place → IsCharBoundary text i → ⊥ = λ i more le at. c.floor_char_boundary-end.ensures.nearest i more (omega (arith, is, le)) at in
    end_place text c.args.to.now r c.utf8.to ends (omega (arith, is, c.floor_char_boundary-end.ensures.bound)) nearest
