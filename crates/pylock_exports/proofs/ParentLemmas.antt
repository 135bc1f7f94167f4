-- The parts of a path, taken one after the other, and whether a `..` stands behind another one.
use Rattle.std.proofs.Common.{[], ◌≡◌, ◌∙◌, ◌⊎◌, inl, inr, ℕ, Bool, true, false, not, ◌+◌, ◌&&◌, List, ◌∷◌, Bor, Some, None, ap, arith, drop, refl, suc, sym}
use Rattle.std.proofs.lemmas.Iterator.{YieldsList}
use Rattle.std.specs.List.{list_any, prefix_len}
use Rattle.std.specs.Str.Iter.{split_steps}
use Rattle.std.specs.Str.Pattern.{FindsChar}
use Rattle.std.specs.declared.str.Split.{Split}
use Rattle.pytext.proofs.IteratorLemmas.{yields_next, yields_none}
use Rattle.pylock_exports.specs.Parts.{behind_parents, has_late_parent, is_parent}

-- a part `..` is left behind another one: where one has come, any
abbrev pub late : Bool → List (List ℕ) → Bool
late true left = list_any is_parent left
late false left = list_any is_parent (behind_parents left)

drop_more : {X : Type 0} (n : ℕ) (x : X) (xs : List X) → drop (1 + n) (x ∷ xs) ≡ drop n xs
drop_more n x xs =
    let one : 1 + n ≡ suc n = omega arith in
    ap (λ k. drop k (x ∷ xs)) one

late_on : (behind : Bool) (part : List ℕ) (left : List (List ℕ)) → (behind && is_parent part) ≡ false → late behind (part ∷ left) ≡ late (not (is_parent part)) left
late_on behind part left = by behind (is_parent part) refl
  where
    by : (behind up : Bool) → is_parent part ≡ up → (behind && is_parent part) ≡ false → late behind (part ∷ left) ≡ late (not (is_parent part)) left
    by true true is none = cc (sym none ∙ is)
    by true false is none = rw is refl
    by false true is none = rw is (ap (list_any is_parent) (drop_more (prefix_len is_parent left) part left))
    by false false is none = rw (is, is) refl

pub not_late : (behind up : Bool) → ((behind ≡ true) × (up ≡ false)) ⊎ (behind ≡ false) → (behind && up) ≡ false
not_late behind up (inl (is, none)) = rw (is, none) refl
not_late behind up (inr none) = rw none refl

-- whether another part has come, and the parts that are left
abbrev pub LateAt : List ℕ → Split ℕ → Bool → Type 0
LateAt path s behind = (left : List (List ℕ))
    × YieldsList (split_steps FindsChar (λ a b. b ≡ a)) (λ x. x.now) s left
    × (late behind left ≡ has_late_parent path)

pub next_part : (path : List ℕ) (s t : Split ℕ) (x : Bor (List ℕ)) (behind next : Bool)
    → split_steps FindsChar (λ a b. b ≡ a) s (Some x) t → LateAt path s behind → (behind && is_parent x.now) ≡ false
    → next ≡ not (is_parent x.now) → LateAt path t next
next_part path s t x behind next step i none is =
    let n = yields_next (split_steps FindsChar (λ a b. b ≡ a)) (λ y. y.now) s i.0 i.1 x t step in
    (n.0, n.2, ap (λ b. late b n.0) is ∙ sym (late_on behind x.now n.0 none) ∙ sym (ap (late behind) n.1) ∙ i.2)

pub found_part : (path : List ℕ) (s t : Split ℕ) (x : Bor (List ℕ)) (behind : Bool)
    → split_steps FindsChar (λ a b. b ≡ a) s (Some x) t → LateAt path s behind → behind ≡ true → is_parent x.now ≡ true → true ≡ has_late_parent path
found_part path s t x behind step i is up =
    let n = yields_next (split_steps FindsChar (λ a b. b ≡ a)) (λ y. y.now) s i.0 i.1 x t step in
    let first : late true (x.now ∷ n.0) ≡ true = rw up refl in
    sym first ∙ ap (λ b. late b (x.now ∷ n.0)) (sym is) ∙ sym (ap (late behind) n.1) ∙ i.2

pub no_part : (path : List ℕ) (s t : Split ℕ) (behind : Bool)
    → split_steps FindsChar (λ a b. b ≡ a) s None t → LateAt path s behind → false ≡ has_late_parent path
no_part path s t behind step i =
    let none = yields_none (split_steps FindsChar (λ a b. b ≡ a)) (λ y. y.now) s i.0 i.1 t step in
    sym (by behind) ∙ sym (ap (late behind) none) ∙ i.2
  where
    by : (behind : Bool) → late behind [] ≡ false
    by true = refl
    by false = refl
