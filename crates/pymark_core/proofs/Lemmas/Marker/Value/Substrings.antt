-- A text stands in another where that is something before it, itself, and something behind it.
use Rattle.std.proofs.Common.{◌≡◌, ℕ, zero, suc, ◌+◌, ◌<◌, ◌≤◌, arith, inl, inr, get_or, Bool, true, false, ◌&&◌, ◌||◌, List, [], ◌∷◌, ◌++◌, length, take, drop, nat_eq, ◌∙◌, ap, refl, sym, subst}
use Rattle.pyver_core.proofs.Lemmas.Set.Reading.Sound.{begins_sound}
use Rattle.std.proofs.lemmas.List.{get_or-drop, get_or_append_left, length-append, take-append-drop}
use Rattle.std.proofs.lemmas.Slice.Eq.{bytes_eq-Decides}
use Rattle.std.proofs.Math.Bool.{or-true}
use Rattle.std.proofs.lemmas.Bool.{and_cases, eqb-false}
use Rattle.std.proofs.Math.Logic.{◌↔◌}
use Rattle.std.proofs.Math.Seq.{take-append_seam}
use Rattle.std.specs.List.{starts_with}
use Rattle.std.specs.Str.Iter.{HasSubslice}
use Rattle.pymark_core.specs.Inner.Passed.{BeginsNowhere}
use Rattle.pymark_core.specs.Marker.Value.{is_substring}

-- one more item before
before : (b : ℕ) (s x : List ℕ) → HasSubslice s x → HasSubslice (b ∷ s) x
before b s x found = (b ∷ found.0, found.1, ap (λ t. b ∷ t) found.2)

pub found_in : (x y : List ℕ) → is_substring x y ≡ true → HasSubslice y x
found_in x [] is = ([], drop (length x) [], begins_sound [] x is)
found_in x (b ∷ rest) is =
    elim (starts_with nat_eq (b ∷ rest) x) as (λ t. starts_with nat_eq (b ∷ rest) x ≡ t → (t || is_substring x rest) ≡ true → HasSubslice (b ∷ rest) x) [
      | true ↦ λ front _. ([], drop (length x) (b ∷ rest), begins_sound (b ∷ rest) x front)
      | false ↦ λ _ later. before b rest x (found_in x rest later)
    ] refl is

front_stands : (s x : List ℕ) → starts_with nat_eq s x ≡ true → is_substring x s ≡ true
front_stands [] x front = front
front_stands (b ∷ rest) x front = ap (λ t. t || is_substring x rest) front

stands : (a b x : List ℕ) → is_substring x (a ++ (x ++ b)) ≡ true
stands [] b x = front_stands (x ++ b) x ((bytes_eq-Decides x (take (length x) (x ++ b))).1 (sym (take-append_seam x b)))
stands (c ∷ a) b x = ap (λ t. starts_with nat_eq (c ∷ (a ++ (x ++ b))) x || t) (stands a b x) ∙ or-true _

same : (r s : Bool) → (r ≡ true → s ≡ true) → (s ≡ true → r ≡ true) → r ≡ s
same true true there back = refl
same true false there back = sym (there refl)
same false true there back = back refl
same false false there back = refl

-- what is true just where x stands in y is whether x is a substring of y
pub substring_is : (r : Bool) (x y : List ℕ) → (r ≡ true) ↔ HasSubslice y x → r ≡ is_substring x y
substring_is r x y is =
    same r (is_substring x y)
    (λ true_is. let at = is.0 true_is in subst (λ t. is_substring x t ≡ true) (sym at.2) (stands at.0 at.1 x))
    (λ stands_in. is.1 (found_in x y stands_in))

-- a text that is longer than another stands nowhere in it
pub longer_nowhere : (x y : List ℕ) → length y < length x → is_substring x y ≡ false
longer_nowhere x y longer =
    elim (is_substring x y) as (λ t. is_substring x y ≡ t → t ≡ false) [
      | true ↦ λ is.
          let found = found_in x y is in
          let whole : length y ≡ length found.0 + (length x + length found.1) =
          ap length found.2 ∙ length-append found.0 (x ++ found.1) ∙ ap (λ n. length found.0 + n) (length-append x found.1) in
          let no : ⊥ = omega (arith, whole, longer) in
          absurd no
      | false ↦ λ _. refl
    ] refl

-- a text that has another byte somewhere doesn't begin so
pub begins_otherwise : (x s : List ℕ) (k : ℕ) → k < length x → (get_or s k 0 ≡ get_or x k 0 → ⊥) → starts_with nat_eq s x ≡ false
begins_otherwise x s k below apart =
    elim (starts_with nat_eq s x) as (λ t. starts_with nat_eq s x ≡ t → t ≡ false) [
      | true ↦ λ is.
          let same : get_or s k 0 ≡ get_or x k 0 = ap (λ l. get_or l k 0) (begins_sound s x is) ∙ get_or_append_left x (drop (length x) s) 0 k below in
          absurd (apart same)
      | false ↦ λ _. refl
    ] refl

differs_at : (x y : List ℕ) (place k : ℕ) → k < length x → nat_eq (get_or y (place + k) 0) (get_or x k 0) ≡ false → starts_with nat_eq (drop place y) x ≡ false
differs_at x y place k below apart =
    begins_otherwise x (drop place y) k below (λ same. eqb-false _ _ apart (sym (get_or-drop place y k 0) ∙ same))

no_further : (place : ℕ) → place + 0 ≡ place
no_further place = omega arith

-- a text that has another byte at one of three places of a part doesn't have the part there
pub unlike_at : (x y : List ℕ) (place middle last : ℕ) → 0 < length x → middle < length x → last < length x
    → ((nat_eq (get_or y place 0) (get_or x 0 0) && nat_eq (get_or y (place + middle) 0) (get_or x middle 0)) && nat_eq (get_or y (place + last) 0) (get_or x last 0)) ≡ false
    → starts_with nat_eq (drop place y) x ≡ false
unlike_at x y place middle last some m l none = elim (and_cases _ _ none) [
  | inl front ↦ elim (and_cases _ _ front) [
    | inl first ↦ differs_at x y place 0 some (ap (λ n. nat_eq (get_or y n 0) (get_or x 0 0)) (no_further place) ∙ first)
    | inr second ↦ differs_at x y place middle m second
  ]
  | inr third ↦ differs_at x y place last l third
]

-- the same by bytes that are those of the part
pub unlike_bytes_at : (x y : List ℕ) (place middle last a b c : ℕ) → 0 < length x → middle < length x → last < length x
    → a ≡ get_or x 0 0 → b ≡ get_or x middle 0 → c ≡ get_or x last 0
    → ((nat_eq (get_or y place 0) a && nat_eq (get_or y (place + middle) 0) b) && nat_eq (get_or y (place + last) 0) c) ≡ false
    → starts_with nat_eq (drop place y) x ≡ false
unlike_bytes_at x y place middle last a b c some m l ea eb ec none =
    unlike_at x y place middle last some m l
    (sym (λ i. (nat_eq (get_or y place 0) (ea i) && nat_eq (get_or y (place + middle) 0) (eb i)) && nat_eq (get_or y (place + last) 0) (ec i)) ∙ none)

-- what begins at none of the first places stands in what is left
pub behind_passed : (x y : List ℕ) (n : ℕ) → BeginsNowhere x y 0 n → is_substring x (drop n y) ≡ is_substring x y
behind_passed x y zero none = refl
behind_passed x [] (suc n) none = refl
behind_passed x (b ∷ rest) (suc n) none =
    behind_passed x rest n (λ k _ below. none (suc k) (omega arith) (omega arith))
    ∙ sym (ap (λ t. t || is_substring x rest) (none 0 (omega arith) (omega arith)))

-- fewer places, of equal texts
pub fewer_passed : (x y a b : List ℕ) (n m : ℕ) → a ≡ x → b ≡ y → n ≤ m → BeginsNowhere a b 0 m → BeginsNowhere x y 0 n
fewer_passed x y a b n m same_part same_whole fewer none = λ k from below.
    sym (λ i. starts_with nat_eq (drop k (same_whole i)) (same_part i)) ∙ none k from (omega (arith, below, fewer))
