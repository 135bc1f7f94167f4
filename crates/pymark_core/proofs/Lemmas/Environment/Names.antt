-- A `BTreeSet` of texts as the finite set of their bytes.
use Rattle.std.proofs.Common.{Ordering, Less, Equal, Greater, inl, inr, ◌≡◌, ℕ, Bool, true, false, cond, not, ◌&&◌, ◌||◌, List, [], ◌∷◌, map, ◌∙◌, ap, refl, sym}
use Rattle.std.specs.Cmp.{Equal-is}
use Rattle.pymark_core.proofs.Lemmas.Marker.Depth.{any_map}
use Rattle.std.proofs.lemmas.Bool.{cases_Bool}
use Rattle.std.proofs.lemmas.Map.Text.{btree_set_updates_text, is_eq-slice_cmp}
use Rattle.std.specs.BTreeSet.{BTreeSet, UpdatesBy, contains_text}
use Rattle.std.specs.Cmp.Lexicographic.{nat_list_cmp_total, nat_list_eq_equiv, slice_cmp}
use Rattle.std.specs.FinSet as set
use Rattle.std.specs.FinSet.{slice_cmp-IsAntisymmetric, nat_cmp-IsAntisymmetric}
use Rattle.std.specs.List.{AllByRecursion, AllZip, list_any}
use Rattle.std.specs.List.Sorted.{IsStrictlySortedBy}
use Rattle.std.specs.Ordering.{eq_by_cmp, is_eq, nat_cmp}
use Rattle.std.specs.Str.{bytes_eq}
use Rattle.std.specs.String.{string_bytes, string_cmp}
use Rattle.std.specs.declared.string.String.{String}
use Rattle.pyver_core.specs.Name.{normal_name}
use Rattle.pymark_core.specs.Environment.{AreNormal, Texts}

-- the set of the texts
abbrev pub seen : {Y : Type 0} → BTreeSet (String Y) → Texts
seen s = set.from_list (map string_bytes s.keys)

pub contains-seen : {Y : Type 0} (s : BTreeSet (String Y)) (q : List ℕ) → set.contains (seen s) q ≡ contains_text s q
contains-seen s q =
    set.contains-from_list nat_list_cmp_total (map string_bytes s.keys) q
    ∙ any_map string_bytes (eq_by_cmp (slice_cmp nat_cmp) q) s.keys

alike : (k q : List ℕ) → bytes_eq k q ≡ eq_by_cmp (slice_cmp nat_cmp) q k
alike k q = nat_list_eq_equiv.symm k q ∙ sym (is_eq-slice_cmp q k)

or_put : (b x : Bool) → cond b true x ≡ (b || x)
or_put true x = refl
or_put false x = refl

and_taken : (b x : Bool) → cond b false x ≡ (not b && x)
and_taken true x = refl
and_taken false x = refl

module _ {Y : Type 0} (s n : BTreeSet (String Y)) (k : List ℕ) where
  -- after a change at the text k, each text stands as before, but k
  after : (b : Bool) → UpdatesBy string_cmp (λ x. slice_cmp nat_cmp k (string_bytes x)) s n b → (q : List ℕ)
      → set.contains (seen n) q ≡ cond (eq_by_cmp (slice_cmp nat_cmp) q k) b (set.contains (seen s) q)
  after b u q =
      contains-seen n q ∙ btree_set_updates_text k s n b u q
      ∙ ap (λ t. cond t b (contains_text s q)) (alike k q)
      ∙ ap (cond (eq_by_cmp (slice_cmp nat_cmp) q k) b) (sym (contains-seen s q))

  pub seen-put : UpdatesBy string_cmp (λ x. slice_cmp nat_cmp k (string_bytes x)) s n true → seen n ≡ set.insert (seen s) k
  seen-put u = set.same_set nat_list_cmp_total (slice_cmp-IsAntisymmetric nat_cmp-IsAntisymmetric) _ _
      (λ q. after true u q ∙ or_put (eq_by_cmp (slice_cmp nat_cmp) q k) (set.contains (seen s) q) ∙ sym (set.contains-insert nat_list_cmp_total (seen s) k q))

  pub seen-taken : UpdatesBy string_cmp (λ x. slice_cmp nat_cmp k (string_bytes x)) s n false → seen n ≡ set.remove (seen s) k
  seen-taken u = set.same_set nat_list_cmp_total (slice_cmp-IsAntisymmetric nat_cmp-IsAntisymmetric) _ _
      (λ q. after false u q ∙ and_taken (eq_by_cmp (slice_cmp nat_cmp) q k) (set.contains (seen s) q) ∙ sym (set.contains-remove nat_list_cmp_total (seen s) k q))

each_mapped : {X Z : Type 0} (P : Z → Type 0) (f : X → Z) (xs : List X) → AllByRecursion (λ x. P (f x)) xs → AllByRecursion P (map f xs)
each_mapped P f [] each = tt
each_mapped P f (x ∷ xs) each = (each.0, each_mapped P f xs each.1)

-- texts in order are so by their bytes
pub bytes_rise : {Y : Type 0} (ks : List (String Y)) → IsStrictlySortedBy string_cmp ks → IsStrictlySortedBy (slice_cmp nat_cmp) (map string_bytes ks)
unfolding IsStrictlySortedBy
bytes_rise [] rise = tt
bytes_rise (k ∷ ks) rise = (each_mapped (λ text. slice_cmp nat_cmp (string_bytes k) text ≡ Less) string_bytes ks rise.0, bytes_rise ks rise.1)

-- the empty set has no text
pub empty_contains : (q : List ℕ) → false ≡ set.contains {R = slice_cmp nat_cmp} set.empty q
empty_contains q = sym (set.contains-empty (slice_cmp nat_cmp) q)

same_text : (k q : List ℕ) → eq_by_cmp (slice_cmp nat_cmp) q k ≡ true → q ≡ k
same_text k q is = slice_cmp-IsAntisymmetric nat_cmp-IsAntisymmetric q k ((Equal-is _).0 is)

-- a text that is in is not put in again, and one that is out is not taken out
module _ (s : Texts) (k : List ℕ) where
  stays_in : (b : Bool) (q : List ℕ) → eq_by_cmp (slice_cmp nat_cmp) q k ≡ b → set.contains s k ≡ true → set.contains s q ≡ (b || set.contains s q)
  stays_in true q is there = ap (set.contains s) (same_text k q is) ∙ there
  stays_in false q is there = refl

  pub insert_stays : set.contains s k ≡ true → s ≡ set.insert s k
  insert_stays there = set.same_set nat_list_cmp_total (slice_cmp-IsAntisymmetric nat_cmp-IsAntisymmetric) _ _
      (λ q. stays_in (eq_by_cmp (slice_cmp nat_cmp) q k) q refl there ∙ sym (set.contains-insert nat_list_cmp_total s k q))

  stays_out : (b : Bool) (q : List ℕ) → eq_by_cmp (slice_cmp nat_cmp) q k ≡ b → set.contains s k ≡ false → set.contains s q ≡ (not b && set.contains s q)
  stays_out true q is out = ap (set.contains s) (same_text k q is) ∙ out
  stays_out false q is out = refl

  pub remove_stays : set.contains s k ≡ false → s ≡ set.remove s k
  remove_stays out = set.same_set nat_list_cmp_total (slice_cmp-IsAntisymmetric nat_cmp-IsAntisymmetric) _ _
      (λ q. stays_out (eq_by_cmp (slice_cmp nat_cmp) q k) q refl out ∙ sym (set.contains-remove nat_list_cmp_total s k q))

-- clones of texts have their bytes
pub seen-clone : {Y : Type 0} (s n : List (String Y)) → AllZip (λ x y. string_bytes y ≡ string_bytes x) s n → map string_bytes n ≡ map string_bytes s
seen-clone [] [] each = refl
seen-clone (x ∷ xs) (y ∷ ys) each = λ i. each.0 i ∷ seen-clone xs ys each.1 i
seen-clone s n each = absurd each

-- ---- names in normal form

module _ {Y : Type 0} (s n : BTreeSet (String Y)) (k : List ℕ) where
  -- a set with a normal name more
  pub normal-put : normal_name k ≡ k → UpdatesBy string_cmp (λ x. slice_cmp nat_cmp k (string_bytes x)) s n true → AreNormal (seen s) → AreNormal (seen n)
  normal-put is u all q there = elim (cases_Bool (eq_by_cmp (slice_cmp nat_cmp) q k)) [
    | inl same ↦ (let equal : q ≡ k = same_text k q same in rw equal is)
    | inr other ↦ all q (rw other at (sym (after s n k true u q) ∙ there))
  ]

  -- a set with a name less
  pub normal-taken : UpdatesBy string_cmp (λ x. slice_cmp nat_cmp k (string_bytes x)) s n false → AreNormal (seen s) → AreNormal (seen n)
  normal-taken u all q there = elim (cases_Bool (eq_by_cmp (slice_cmp nat_cmp) q k)) [
    | inl same ↦ (let contradiction : false ≡ true = (rw same at (sym (after s n k false u q) ∙ there)) in absurd cc)
    | inr other ↦ all q (rw other at (sym (after s n k false u q) ∙ there))
  ]

-- no name at all
pub normal_none : {Y : Type 0} (s : BTreeSet (String Y)) → s.keys ≡ [] → AreNormal (seen s)
normal_none s none q there =
    let contradiction : false ≡ true = (rw none at (sym (contains-seen s q) ∙ there)) in absurd cc

-- where no set was, or a name is in already
pub ruleset insert_or_stay = (empty_contains, insert_stays)
