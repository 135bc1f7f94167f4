use Rattle.std.proofs.Common.{◌≡◌, ◌∷◌, [], ◌∙◌, refl, ap}
use Rattle.std.specs.Ordering.{nat_cmp, ordering_then}
use Rattle.std.specs.declared.cmp.Ordering.{Ordering}
use Rattle.std.specs.Cmp.Lexicographic.{slice_cmp}
use Rattle.pyver_core.specs.Version.Order.{cmp_in_turn, phase_number, phase_rank, segment_cmp}
use Rattle.pyver_core.specs.Inner.Tails.{tail_cmp}
use Rattle.pyver_core.specs.contracts.version.part.LocalPartOrd.TheImpl.{cmp-value}
use Rattle.pyver_core.specs.declared.version.part.LocalPart.{LocalPart}
use Rattle.pyver_core.specs.declared.version.part.LocalPart.TheVariants.{Number, Text}
use Rattle.pyver_core.proofs.Lemmas.Version.Order.InTurn.{then_assoc, then_each_in_turn}
use Rattle.pyver_core.proofs.version.order.compare_tails.Goals as goal

-- the derived order of segments is that of the definition
derived_cmp : (a b : LocalPart) → cmp-value.it a b ≡ segment_cmp a b
derived_cmp (Number m) (Number n) = refl
derived_cmp (Text a) (Number n) = refl
derived_cmp a b = refl

pub returns : goal.returns
unfolding tail_cmp
returns c =
    let v = c.args.left.now in
    let w = c.args.right.now in
    let segments : c.cmp-2.result ≡ slice_cmp segment_cmp v.local.now w.local.now =
    c.cmp-2.ensures ∙ (λ i. slice_cmp (λ a b. derived_cmp a b i) v.local.now w.local.now) in
    let tail = c.cmp.result ∷ c.compare_dev.result ∷ c.cmp-2.result ∷ [] in
    let joined = then_each_in_turn c.compare_phases.result tail in
    let phases : cmp_in_turn (c.compare_phases.result ∷ tail) ≡ ordering_then (nat_cmp (phase_rank v.pre v.post v.dev) (phase_rank w.pre w.post w.dev)) (ordering_then (nat_cmp (phase_number v.pre) (phase_number w.pre)) (cmp_in_turn tail)) =
    ap (λ (p : Ordering). ordering_then p (cmp_in_turn tail)) c.compare_phases.ensures ∙ then_assoc _ _ (cmp_in_turn tail) in
    cc
