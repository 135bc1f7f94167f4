-- Where the epochs and the releases of two versions differ they decide, and else what stands behind.
use Rattle.std.proofs.Common.{◌≡◌, ◌≢◌, ℕ, zero, suc, ◌≤◌, List, [], ◌∷◌, length, take, drop, refl, sym, ◌∙◌, ap, arith}
use Rattle.std.specs.Ordering.{nat_cmp, ordering_then}
use Rattle.std.specs.Cmp.Lexicographic.{slice_cmp}
use Rattle.std.specs.declared.cmp.Ordering.{Ordering}
use Rattle.std.specs.declared.cmp.Ordering.TheVariants.{Less, Equal, Greater}
use Rattle.pyver_core.specs.Version.Order.{release_cmp, version_cmp}
use Rattle.pyver_core.specs.Version.OrderLaws.{then-Equal}
use Rattle.pyver_core.specs.Version.Parts.{Parts, base_release}
use Rattle.pyver_core.specs.Inner.Releases.{release_cmp-both}
use Rattle.pyver_core.specs.Inner.Tails.{tail_cmp}
use Rattle.pyver_core.proofs.Lemmas.Version.Order.InTurn.{then_assoc}

decided : (front tail : Ordering) → front ≢ Equal → ordering_then front tail ≡ front
decided Less tail other = refl
decided Equal tail other = absurd (other refl)
decided Greater tail other = refl

-- a version compares by its front, and then by its tail
fronts_then_tails : (v w : Parts) (front : Ordering)
    → front ≡ ordering_then (nat_cmp v.epoch w.epoch) (release_cmp v.release w.release)
    → ordering_then front (tail_cmp v w) ≡ version_cmp v w
unfolding version_cmp tail_cmp
fronts_then_tails v w front is =
    ap (λ (f : Ordering). ordering_then f (tail_cmp v w)) is
    ∙ then_assoc (nat_cmp v.epoch w.epoch) (release_cmp v.release w.release) (tail_cmp v w)

pub fronts_decide : (v w : Parts) (front : Ordering)
    → front ≡ ordering_then (nat_cmp v.epoch w.epoch) (release_cmp v.release w.release)
    → front ≢ Equal → front ≡ version_cmp v w
fronts_decide v w front is other =
    sym (decided front (tail_cmp v w) other) ∙ fronts_then_tails v w front is

pub tails_decide : (v w : Parts) (front : Ordering)
    → front ≡ ordering_then (nat_cmp v.epoch w.epoch) (release_cmp v.release w.release)
    → front ≡ Equal → tail_cmp v w ≡ version_cmp v w
tails_decide v w front is same =
    ap (λ (f : Ordering). ordering_then f (tail_cmp v w)) (sym same) ∙ fronts_then_tails v w front is

pub ruleset in_parts = (fronts_decide, tails_decide)

-- the base releases of two versions compare as their fronts
pub fronts_of_bases : (v w : Parts) (front : Ordering)
    → front ≡ ordering_then (nat_cmp v.epoch w.epoch) (release_cmp v.release w.release)
    → version_cmp (base_release v) (base_release w) ≡ front
unfolding tail_cmp
fronts_of_bases v w front is =
    sym (fronts_then_tails (base_release v) (base_release w) front is) ∙ then-Equal front

-- the first numbers of two releases decide before the rest
pub release_cmp_fronts : (n : ℕ) (a b : List ℕ) → n ≤ length a → n ≤ length b
    → release_cmp a b
    ≡ ordering_then (slice_cmp nat_cmp (take n a) (take n b)) (release_cmp (drop n a) (drop n b))
release_cmp_fronts zero a b left right = refl
release_cmp_fronts (suc n) [] b left right = absurd (omega arith)
release_cmp_fronts (suc n) (x ∷ a) [] left right = absurd (omega arith)
release_cmp_fronts (suc n) (x ∷ a) (y ∷ b) left right =
    release_cmp-both x a y b
    ∙ ap (ordering_then (nat_cmp x y)) (release_cmp_fronts n a b (omega arith) (omega arith))
    ∙ sym (then_assoc (nat_cmp x y) (slice_cmp nat_cmp (take n a) (take n b)) (release_cmp (drop n a) (drop n b)))
