-- What a specifier that admits a version, or doesn't, says of where the version stands.
use Rattle.std.proofs.Common.{◌≡◌, ℕ, Bool, true, false, List, [], ◌∷◌, ◌++◌, Option, Some, None, refl, sym, ap, ◌∙◌}
use Rattle.std.specs.Prelude.{◌&&◌, ◌||◌, is_some, not}
use Rattle.std.specs.Cmp.{nat_cmp_is}
use Rattle.std.specs.Cmp.Lexicographic.{slice_cmp}
use Rattle.std.specs.Ordering.{is_eq, is_gt, is_lt, nat_cmp, ordering_reverse, ordering_then}
use Rattle.std.specs.Option.{option_cmp}
use Rattle.std.specs.declared.cmp.Ordering.{Ordering}
use Rattle.std.specs.declared.cmp.Ordering.TheVariants.{Less, Equal, Greater}
use Rattle.std.proofs.lemmas.Bool.{and_right, cond-false, cond-true}
use Rattle.std.proofs.lemmas.Cmp.{tied_back}
use Rattle.pyver_core.specs.Inner.Releases.{release_cmp-both}
use Rattle.pyver_core.specs.Set.Admission.{has_base_of, has_local, is_above, is_below, matches}
use Rattle.pyver_core.specs.Version.Order.{cmp_in_turn, dev_cmp, phase_number, phase_rank, release_cmp, segment_cmp, version_cmp}
use Rattle.pyver_core.specs.Version.OrderLaws.{version_total}
use Rattle.pyver_core.specs.Version.Parts.{Parts, base_release, is_postrelease, is_prerelease, public_part}
use Rattle.pyver_core.specs.declared.version.part.LocalPart.{LocalPart}
use Rattle.pyver_core.specs.declared.version.part.PreKind.{PreKind}
use Rattle.pyver_algebra.specs.Firsts.{first_of}
use Rattle.pyver_algebra.proofs.OrderLemmas.{bases_cmp, before_first, before_from_public, front_after, front_before, front_cmp, front_total, no_local, public_before, public_same, same_publics, turned_lt, upto_before, version_fronts}

-- ---- `==`

-- at a version: neither before it nor after it
neither : (r s : Ordering) → r ≡ ordering_reverse s → is_eq r ≡ (not (is_lt r) && not (is_lt s))
neither r Less e = rw e refl
neither r Equal e = rw e refl
neither r Greater e = rw e refl

pub matches_is : (v c : Parts) → has_local v ≡ false
    → matches v c ≡ (not (is_lt (version_cmp (public_part c) v)) && not (is_lt (version_cmp v (public_part c))))
matches_is v c none =
    cond-false (has_local v) _ _ none
    ∙ neither (version_cmp (public_part c) v) (version_cmp v (public_part c)) (version_total.antisymm (public_part c) v)

is_eq-Equal : (r : Ordering) → is_eq r ≡ true → r ≡ Equal
is_eq-Equal Equal e = refl
is_eq-Equal r e = cc e

is_lt-Less : (r : Ordering) → is_lt r ≡ true → r ≡ Less
is_lt-Less Less e = refl
is_lt-Less r e = cc e

pub matches_local : (v c : Parts) → has_local v ≡ true → matches v c ≡ true
    → (not (is_lt (version_cmp (public_part c) (public_part v))) && not (is_lt (version_cmp (public_part v) (public_part c)))) ≡ true
matches_local v c some e =
    let same : version_cmp c v ≡ Equal = is_eq-Equal (version_cmp c v) (sym (cond-true (has_local v) _ _ some) ∙ e) in
    sym (neither (version_cmp (public_part c) (public_part v)) (version_cmp (public_part v) (public_part c)) (version_total.antisymm (public_part c) (public_part v)))
    ∙ ap is_eq (same_publics c v same)

-- ---- `<`

pub below_before : (v c : Parts) → is_below v c ≡ true → is_lt (version_cmp (public_part c) v) ≡ true
below_before v c e = public_before c v (first_of_two (is_lt (version_cmp c v)) _ e)
  where
    first_of_two : (x y : Bool) → (x && y) ≡ true → x ≡ true
    first_of_two true y e = refl
    first_of_two false y e = e

below_yes : (r : Ordering) (x y b : Bool) → r ≡ Less → b ≡ false → (is_lt r && not (not x && (y && b))) ≡ true
below_yes r true y b e f = rw e refl
below_yes r false true b e f = rw (e, f) refl
below_yes r false false b e f = rw e refl

-- a lower front is enough
below_by_front : (v c : Parts) → is_lt (front_cmp c v) ≡ true → is_below v c ≡ true
below_by_front v c less =
    let front : front_cmp c v ≡ Less = is_lt-Less _ less in
    below_yes (version_cmp c v) (is_prerelease v) (is_prerelease c) (has_base_of v c) (front_before c v front) (ap is_eq (bases_cmp c v ∙ front))

denied : (x y : Bool) → (x ≡ true → y ≡ true) → y ≡ false → x ≡ false
denied true y f e = sym (f refl) ∙ e
denied false y f e = refl

pub not_below_front : (v c : Parts) → is_below v c ≡ false → is_lt (version_cmp (public_part c) (first_of v.epoch v.release)) ≡ false
not_below_front v c e =
    before_first c v.epoch v.release ∙ denied (is_lt (front_cmp c v)) (is_below v c) (below_by_front v c) e

pub not_below_pre : (v c : Parts) → is_prerelease v ≡ true → has_local v ≡ false → is_below v c ≡ false → is_lt (version_cmp (public_part c) v) ≡ false
not_below_pre v c pre none e =
    denied (is_lt (version_cmp (public_part c) v)) (is_lt (version_cmp c v)) (before_from_public c v (no_local v none))
    (kept (is_lt (version_cmp c v)) (is_prerelease v) _ pre e)
  where
    kept : (x p y : Bool) → p ≡ true → (x && not (not p && y)) ≡ false → x ≡ false
    kept true true y pre e = cc e
    kept true false y pre e = cc pre
    kept false p y pre e = refl

-- a version of one front with a final release isn't before it unless it is a pre-release
below_by : (r : Ordering) (pre : Option (PreKind × ℕ)) (post dev : Option ℕ) (local : List LocalPart)
    → (is_lt (ordering_then r (cmp_in_turn (nat_cmp (phase_rank pre post dev) 4 ∷ nat_cmp (phase_number pre) 0 ∷ option_cmp nat_cmp post None ∷ dev_cmp dev None ∷ slice_cmp segment_cmp local [] ∷ [])))
    && not ((is_some pre || is_some dev) && is_eq r)) ≡ is_lt r
below_by Less (Some p) post dev local = refl
below_by Less None post (Some d) local = refl
below_by Less None post None local = refl
below_by Greater pre post dev local = refl
below_by Equal (Some p) post dev local = and_right _ false refl
below_by Equal None post (Some d) local = and_right _ false refl
below_by Equal None None None [] = refl
below_by Equal None None None (x ∷ xs) = refl
below_by Equal None (Some n) None local = refl

pub below_final : (v c : Parts) → v ≡ base_release v → is_below v c ≡ is_lt (version_cmp (public_part c) (first_of v.epoch v.release))
below_final v c final =
    let w : Parts = base_release v in
    ap (λ (w : Parts). is_below w c) final
    ∙ (λ i. is_lt (version_fronts c (base_release v) i) && not ((is_some c.pre || is_some c.dev) && is_eq (bases_cmp c (base_release v) i)))
    ∙ below_by (front_cmp c (base_release v)) c.pre c.post c.dev c.local
    ∙ sym (before_first c v.epoch v.release)

-- ---- `>`

above_yes : (r : Ordering) (x y b z d : Bool) → r ≡ Less → b ≡ false → d ≡ false → (is_lt r && (not (not x && (y && b)) && not (z && d))) ≡ true
above_yes r x y b z d e f g = rw (e, f, g) (tidy x y z)
  where
    tidy : (x y z : Bool) → (not (not x && (y && false)) && not (z && false)) ≡ true
    tidy true y true = refl
    tidy true y false = refl
    tidy false true true = refl
    tidy false true false = refl
    tidy false false true = refl
    tidy false false false = refl

-- a higher front is enough
above_by_front : (v c : Parts) → is_lt (front_cmp v c) ≡ true → is_above v c ≡ true
above_by_front v c less =
    let front : front_cmp v c ≡ Less = is_lt-Less _ less in
    let turned : front_cmp c v ≡ Greater = front_total.antisymm c v ∙ ap ordering_reverse front in
    above_yes (version_cmp v c) (is_postrelease v) (is_postrelease c) (has_base_of v c) (has_local c) (is_eq (version_cmp (public_part c) v))
    (front_before v c front) (ap is_eq (bases_cmp c v ∙ turned)) (ap is_eq (front_after (public_part c) v turned))

longer : (release : List ℕ) → release_cmp release (release ++ 1 ∷ []) ≡ Less
unfolding release_cmp
longer [] = refl
longer (x ∷ xs) = release_cmp-both x xs x (xs ++ 1 ∷ []) ∙ rw (sym (nat_cmp_is x x Equal refl)) (longer xs)

pub not_above_front : (v c : Parts) → is_above v c ≡ false
    → is_lt (version_cmp (public_part c) (first_of v.epoch (v.release ++ 1 ∷ []))) ≡ true
not_above_front v c e =
    let w : Parts = first_of v.epoch (v.release ++ 1 ∷ []) in
    let less : front_cmp v w ≡ Less = rw (sym (nat_cmp_is v.epoch v.epoch Equal refl)) (longer v.release) in
    let upto : is_gt (front_cmp c v) ≡ false = sym (turned_lt front_total v c) ∙ denied (is_lt (front_cmp v c)) (is_above v c) (above_by_front v c) e in
    before_first c v.epoch (v.release ++ 1 ∷ []) ∙ ap is_lt (upto_before front_total c v w (front_cmp c v) refl less upto)

parts_of_above : (x p q : Bool) → (x && (p && q)) ≡ true → (x ≡ true) × (q ≡ true)
parts_of_above true true q e = (refl, e)
parts_of_above true false q e = cc e
parts_of_above false p q e = cc e

pub above_after : (v c : Parts) → has_local v ≡ false → is_above v c ≡ true → is_lt (version_cmp v (public_part c)) ≡ true
above_after v c none e =
    let parts = parts_of_above (is_lt (version_cmp v c)) _ _ e in
    at_local (has_local c) refl parts.0 parts.1
  where
    at_order : (r : Ordering) → version_cmp v (public_part c) ≡ r → is_lt (version_cmp v c) ≡ true → is_eq (version_cmp (public_part c) v) ≡ false
        → is_lt (version_cmp v (public_part c)) ≡ true
    at_order Less is less other = ap is_lt is
    at_order Equal is less other = let same = tied_back version_total v (public_part c) is in cc (ap is_eq same, other)
    at_order Greater is less other =
        let turned : version_cmp (public_part c) v ≡ Less = version_total.antisymm (public_part c) v ∙ ap ordering_reverse is in
        let before : version_cmp c v ≡ Less = is_lt-Less _ (before_from_public c v (no_local v none) (ap is_lt turned)) in
        let after : version_cmp v c ≡ Greater = version_total.antisymm v c ∙ ap ordering_reverse before in
        cc (ap is_lt after, less)

    not_same : (b : Bool) → not (true && b) ≡ true → b ≡ false
    not_same true e = cc e
    not_same false e = refl

    at_local : (b : Bool) → has_local c ≡ b → is_lt (version_cmp v c) ≡ true → not (has_local c && is_eq (version_cmp (public_part c) v)) ≡ true
        → is_lt (version_cmp v (public_part c)) ≡ true
    at_local false is less other = ap (λ (w : Parts). is_lt (version_cmp v w)) (public_same c (no_local c is)) ∙ less
    at_local true is less other = at_order (version_cmp v (public_part c)) refl less (not_same _ (rw is at other))
