-- What the order of versions says of their fronts (epoch and release) and of their public parts.
use Rattle.std.proofs.Common.{◌≡◌, ℕ, zero, suc, true, false, List, [], ◌∷◌, ◌++◌, length, Option, Some, None, refl, sym, ap, ◌∙◌, arith}
use Rattle.std.specs.Prelude.{◌==◌}
use Rattle.std.specs.Cmp.{IsTotalOrder, nat_cmp_is, nat_cmp_total, on_total, then_total}
use Rattle.std.specs.Cmp.Lexicographic.{slice_cmp}
use Rattle.std.specs.Ordering.{is_gt, is_lt, nat_cmp, ordering_reverse, ordering_then}
use Rattle.std.specs.Option.{option_cmp}
use Rattle.std.specs.declared.cmp.Ordering.{Ordering}
use Rattle.std.specs.declared.cmp.Ordering.TheVariants.{Less, Equal, Greater}
use Rattle.std.proofs.lemmas.Bool.{eqb-true, not-false}
use Rattle.std.proofs.lemmas.Cmp.{alike_right}
use Rattle.pyver_core.specs.Set.Admission.{has_local}
use Rattle.pyver_core.specs.Version.Order.{cmp_in_turn, dev_cmp, phase_number, phase_rank, release_cmp, segment_cmp, version_cmp}
use Rattle.pyver_core.specs.Version.OrderLaws.{release_total, then-Equal}
use Rattle.pyver_core.specs.Version.Parts.{Parts, base_release, public_part}
use Rattle.pyver_core.specs.declared.version.part.LocalPart.{LocalPart}
use Rattle.pyver_core.specs.declared.version.part.PreKind.{PreKind}
use Rattle.pyver_core.specs.declared.version.part.PreKind.TheVariants.{A, B, Rc}
use Rattle.pyver_core.proofs.Lemmas.Version.Order.InTurn.{then_assoc}
use Rattle.pyver_algebra.specs.Firsts.{first_of}

-- ---- orders

-- of three in a total order
module _ {K : Type 0} {R : K → K → Ordering} (o : IsTotalOrder R) where
  -- a comes before b, and b isn't after c
  pub before_upto : (a b c : K) (r : Ordering) → R b c ≡ r → R a b ≡ Less → is_gt r ≡ false → R a c ≡ Less
  before_upto a b c Less e less upto = o.trans a b c less e
  before_upto a b c Equal e less upto = sym (alike_right o b c a e) ∙ less
  before_upto a b c Greater e less upto = cc upto

  pub upto_before : (a b c : K) (r : Ordering) → R a b ≡ r → R b c ≡ Less → is_gt r ≡ false → R a c ≡ Less
  upto_before a b c Less e less upto = o.trans a b c e less
  upto_before a b c Equal e less upto = o.congr a b c e ∙ less
  upto_before a b c Greater e less upto = cc upto

  pub turned_lt : (a b : K) → is_lt (R a b) ≡ is_gt (R b a)
  turned_lt a b = turned (R a b) (R b a) (o.antisymm a b)
    where
      turned : (r s : Ordering) → r ≡ ordering_reverse s → is_lt r ≡ is_gt s
      turned r Less e = ap is_lt e
      turned r Equal e = ap is_lt e
      turned r Greater e = ap is_lt e

-- ---- comparisons in turn

then_lt : (r s : Ordering) → is_lt s ≡ false → is_lt (ordering_then r s) ≡ is_lt r
then_lt Less s e = refl
then_lt Equal s e = e
then_lt Greater s e = refl

in_turn_last : (xs : List Ordering) (last : Ordering) → cmp_in_turn (xs ++ last ∷ []) ≡ ordering_then (cmp_in_turn xs) last
in_turn_last [] last = then-Equal last
in_turn_last (Less ∷ xs) last = refl
in_turn_last (Equal ∷ xs) last = in_turn_last xs last
in_turn_last (Greater ∷ xs) last = refl

-- ---- fronts

abbrev pub front_cmp : Parts → Parts → Ordering
front_cmp v w = ordering_then (nat_cmp v.epoch w.epoch) (release_cmp v.release w.release)

pub front_total : IsTotalOrder front_cmp
front_total = then_total (on_total (λ (v : Parts). v.epoch) nat_cmp_total) (on_total (λ (v : Parts). v.release) release_total)

-- what stands behind the front, but for the local part
abbrev pub tail : Parts → Parts → List Ordering
tail v w = nat_cmp (phase_rank v.pre v.post v.dev) (phase_rank w.pre w.post w.dev)
    ∷ nat_cmp (phase_number v.pre) (phase_number w.pre)
    ∷ option_cmp nat_cmp v.post w.post
    ∷ dev_cmp v.dev w.dev
    ∷ []

-- the public parts
abbrev public_cmp : Parts → Parts → Ordering
public_cmp v w = cmp_in_turn (nat_cmp v.epoch w.epoch ∷ release_cmp v.release w.release ∷ tail v w)

version_publics : (v w : Parts) → version_cmp v w ≡ ordering_then (public_cmp v w) (slice_cmp segment_cmp v.local w.local)
unfolding version_cmp
version_publics v w = in_turn_last (nat_cmp v.epoch w.epoch ∷ release_cmp v.release w.release ∷ tail v w) (slice_cmp segment_cmp v.local w.local)

pub version_fronts : (v w : Parts) → version_cmp v w ≡ ordering_then (front_cmp v w) (cmp_in_turn (tail v w ++ slice_cmp segment_cmp v.local w.local ∷ []))
unfolding version_cmp
version_fronts v w = sym (then_assoc (nat_cmp v.epoch w.epoch) (release_cmp v.release w.release) (cmp_in_turn (tail v w ++ slice_cmp segment_cmp v.local w.local ∷ [])))

pub bases_cmp : (v w : Parts) → version_cmp (base_release v) (base_release w) ≡ front_cmp v w
bases_cmp v w = version_fronts (base_release v) (base_release w) ∙ then-Equal (front_cmp v w)

then_Less : (r s : Ordering) → r ≡ Less → ordering_then r s ≡ Less
then_Less r s e = ap (λ (o : Ordering). ordering_then o s) e

then_Greater : (r s : Ordering) → r ≡ Greater → ordering_then r s ≡ Greater
then_Greater r s e = ap (λ (o : Ordering). ordering_then o s) e

then_first : (r s : Ordering) → ordering_then r s ≡ Equal → r ≡ Equal
then_first Equal s e = refl
then_first r s e = cc e

pub front_before : (v w : Parts) → front_cmp v w ≡ Less → version_cmp v w ≡ Less
front_before v w e = version_fronts v w ∙ then_Less _ _ e

pub front_after : (v w : Parts) → front_cmp v w ≡ Greater → version_cmp v w ≡ Greater
front_after v w e = version_fronts v w ∙ then_Greater _ _ e

-- ---- the first version of a release

not_below_zero : (n : ℕ) → is_lt (ordering_then (nat_cmp n 0) Equal) ≡ false
not_below_zero zero = refl
not_below_zero (suc n) = rw (sym (nat_cmp_is (suc n) 0 Greater (omega arith))) refl

-- nothing stands before it but what has a lower front
tail_from_first : (pre : Option (PreKind × ℕ)) (post dev : Option ℕ)
    → is_lt (cmp_in_turn (nat_cmp (phase_rank pre post dev) 0 ∷ nat_cmp (phase_number pre) 0 ∷ option_cmp nat_cmp post None ∷ dev_cmp dev (Some 0) ∷ Equal ∷ [])) ≡ false
tail_from_first None None (Some d) = not_below_zero d
tail_from_first None None None = refl
tail_from_first None (Some p) dev = refl
tail_from_first (Some (A, n)) post dev = refl
tail_from_first (Some (B, n)) post dev = refl
tail_from_first (Some (Rc, n)) post dev = refl

pub before_first : (c : Parts) (epoch : ℕ) (release : List ℕ)
    → is_lt (version_cmp (public_part c) (first_of epoch release)) ≡ is_lt (front_cmp c (first_of epoch release))
before_first c epoch release =
    ap is_lt (version_fronts (public_part c) (first_of epoch release))
    ∙ then_lt (front_cmp c (first_of epoch release)) _ (tail_from_first c.pre c.post c.dev)

-- ---- local parts

pub no_local : (v : Parts) → has_local v ≡ false → v.local ≡ []
no_local v e = empty v.local (not-false (length v.local == 0) e)
  where
    empty : (xs : List LocalPart) → (length xs == 0) ≡ true → xs ≡ []
    empty [] e = refl
    empty (x ∷ xs) e = let n : length (x ∷ xs) ≡ 0 = eqb-true (length (x ∷ xs)) 0 e in absurd (omega arith)

pub public_same : (v : Parts) → v.local ≡ [] → public_part v ≡ v
public_same v e = λ i. record v { local = sym e i }

-- without its local part a version comes no later
pub public_before : (c v : Parts) → is_lt (version_cmp c v) ≡ true → is_lt (version_cmp (public_part c) v) ≡ true
public_before c v e =
    ap is_lt (version_publics (public_part c) v)
    ∙ below (public_cmp c v) c.local v.local (ap is_lt (sym (version_publics c v)) ∙ e)
  where
    below : (r : Ordering) (xs ys : List LocalPart) → is_lt (ordering_then r (slice_cmp segment_cmp xs ys)) ≡ true → is_lt (ordering_then r (slice_cmp segment_cmp [] ys)) ≡ true
    below Less xs ys e = refl
    below Equal [] [] e = cc e
    below Equal (x ∷ xs) [] e = cc e
    below Equal xs (y ∷ ys) e = refl
    below Greater xs ys e = cc e

pub before_from_public : (c v : Parts) → v.local ≡ [] → is_lt (version_cmp (public_part c) v) ≡ true → is_lt (version_cmp c v) ≡ true
before_from_public c v none e =
    ap is_lt (version_publics c v)
    ∙ below (public_cmp c v) c.local v.local none (ap is_lt (sym (version_publics (public_part c) v)) ∙ e)
  where
    below : (r : Ordering) (xs ys : List LocalPart) → ys ≡ [] → is_lt (ordering_then r (slice_cmp segment_cmp [] ys)) ≡ true → is_lt (ordering_then r (slice_cmp segment_cmp xs ys)) ≡ true
    below Less xs ys none e = refl
    below Equal xs [] none e = cc e
    below Equal xs (y ∷ ys) none e = cc none
    below Greater xs ys none e = cc e

-- versions that are the same are so without their local parts
pub same_publics : (c v : Parts) → version_cmp c v ≡ Equal → version_cmp (public_part c) (public_part v) ≡ Equal
same_publics c v e =
    version_publics (public_part c) (public_part v) ∙ then-Equal (public_cmp c v)
    ∙ then_first (public_cmp c v) _ (sym (version_publics c v) ∙ e)
