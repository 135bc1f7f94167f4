use Rattle.std.proofs.Common.{◌≡◌, refl, ◌∙◌}
use Rattle.std.specs.Ordering.{nat_cmp, ordering_then}
use Rattle.pyver_core.specs.Inner.Phase.{number_of, phase_of, rank_of}
use Rattle.pyver_core.specs.contracts.version.order.PhaseOrd.TheImpl.{cmp-value}
use Rattle.pyver_core.specs.declared.version.order.Phase.{Phase}
use Rattle.pyver_core.specs.declared.version.order.Phase.TheVariants.{Developmental, Pre, Final}
use Rattle.pyver_core.specs.declared.version.part.PreKind.TheVariants.{A, B, Rc}
use Rattle.pyver_core.proofs.Lemmas.Version.Order.Phases.{number_is, rank_is}
use Rattle.pyver_core.proofs.version.order.compare_phases.Goals as goal

-- the derived order goes by the rank and then by the number
derived_cmp : (p q : Phase) → cmp-value.it p q ≡ ordering_then (nat_cmp (rank_of p) (rank_of q)) (nat_cmp (number_of p) (number_of q))
derived_cmp Developmental (Pre A n) = refl
derived_cmp (Pre A m) (Pre A n) = refl
derived_cmp p (Pre A n) = refl
derived_cmp p q = refl

pub returns : goal.returns
returns c =
    let v = c.args.left.now in
    let w = c.args.right.now in
    let derived : c.cmp.result ≡ cmp-value.it (phase_of v.pre v.post v.dev) (phase_of w.pre w.post w.dev) = rw (← c.phase_of.ensures, ← c.phase_of-2.ensures) c.cmp.ensures in
    rw (← rank_is v.pre v.post v.dev, ← rank_is w.pre w.post w.dev, ← number_is v.pre v.post v.dev, ← number_is w.pre w.post w.dev) (derived ∙ derived_cmp (phase_of v.pre v.post v.dev) (phase_of w.pre w.post w.dev))
