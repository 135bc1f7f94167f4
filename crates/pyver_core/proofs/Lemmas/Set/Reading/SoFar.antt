-- Reading the pieces of a set one after the other.
use Rattle.std.proofs.Common.{◌≡◌, ℕ, Bool, true, false, List, [], ◌∷◌, ◌++◌, Option, Some, None, refl, sym, ap, ◌∙◌, append_assoc, append-nil}
use Rattle.std.specs.Prelude.{◌||◌, flat_map, option_map}
use Rattle.std.specs.List.{list_all}
use Rattle.std.proofs.lemmas.Grind.{flat_map-append}
use Rattle.pytext.specs.Bytes.{is_white}
use Rattle.std.proofs.lemmas.Bool.{or_left, or_right}
use Rattle.pyver_core.specs.Version.Grammar.{has_large}
use Rattle.pyver_core.specs.Set.Grammar.{specifier_numbers}
use Rattle.pyver_core.specs.Set.Reading.{specifier_of, specifiers_of}
use Rattle.pyver_core.specs.declared.set.specifier.Specifier.{Specifier}
use Rattle.pyver_core.proofs.Lemmas.Version.Grammar.Limits.{has_large-append, or_false}

-- ---- the specifiers so far

-- Of all pieces those on the left are still to be read. The items are the specifiers so far, unless one of
-- these is large.
pub record ReadSoFar (left all : List (List ℕ)) (items : List Specifier) (is_large : Bool) : Type 0 where
  pub so_far : List Specifier
  pub whole : specifiers_of all ≡ option_map (λ rest. so_far ++ rest) (specifiers_of left)
  pub small : is_large ≡ false → (items ≡ so_far) × (has_large (flat_map specifier_numbers so_far) ≡ false)
  pub large : is_large ≡ true → has_large (flat_map specifier_numbers so_far) ≡ true

none-before : (o : Option (List Specifier)) → o ≡ option_map (λ rest. [] ++ rest) o
none-before None = refl
none-before (Some specifiers) = refl

pub read_start : (all : List (List ℕ)) → ReadSoFar all all [] false
read_start all = record {
  so_far = [];
  whole = none-before (specifiers_of all);
  small = λ _. (refl, refl);
  large = λ e. absurd (let n : false ≡ true = e in cc);
}

pub read_blank : {piece : List ℕ} {left all : List (List ℕ)} {items : List Specifier} {is_large : Bool} → list_all is_white piece ≡ true
    → ReadSoFar (piece ∷ left) all items is_large → ReadSoFar left all items is_large
unfolding specifiers_of
read_blank blank r = record {
  so_far = r.so_far;
  whole = rw blank at r.whole;
  small = r.small;
  large = r.large;
}

-- a piece that is no specifier
pub read_refused : {piece : List ℕ} {left all : List (List ℕ)} {items : List Specifier} {is_large : Bool} → list_all is_white piece ≡ false
    → specifier_of piece ≡ None → ReadSoFar (piece ∷ left) all items is_large → specifiers_of all ≡ None
unfolding specifiers_of
read_refused other none r = rw (other, none) at r.whole

one-more : (so_far : List Specifier) (s : Specifier) (o : Option (List Specifier))
    → option_map (λ rest. so_far ++ rest) (option_map (λ others. s ∷ others) o) ≡ option_map (λ rest. (so_far ++ s ∷ []) ++ rest) o
one-more so_far s None = refl
one-more so_far s (Some others) = ap Some (sym (append_assoc so_far (s ∷ []) others))

more-whole : (piece : List ℕ) (left all : List (List ℕ)) (so_far : List Specifier) (s : Specifier) → list_all is_white piece ≡ false
    → specifier_of piece ≡ Some s → specifiers_of all ≡ option_map (λ rest. so_far ++ rest) (specifiers_of (piece ∷ left))
    → specifiers_of all ≡ option_map (λ rest. (so_far ++ s ∷ []) ++ rest) (specifiers_of left)
unfolding specifiers_of
more-whole piece left all so_far s other some whole = (rw (other, some) at whole) ∙ one-more so_far s (specifiers_of left)

more-numbers : (so_far : List Specifier) (s : Specifier)
    → has_large (flat_map specifier_numbers (so_far ++ s ∷ [])) ≡ (has_large (flat_map specifier_numbers so_far) || has_large (specifier_numbers s))
more-numbers so_far s =
    ap has_large (flat_map-append specifier_numbers so_far (s ∷ []) ∙ ap (λ ns. flat_map specifier_numbers so_far ++ ns) (append-nil (specifier_numbers s)))
    ∙ has_large-append (flat_map specifier_numbers so_far) (specifier_numbers s)

-- a specifier that is put after the others
pub read_within : {piece : List ℕ} {left all : List (List ℕ)} {items : List Specifier} {is_large : Bool} (s : Specifier) → list_all is_white piece ≡ false
    → specifier_of piece ≡ Some s → has_large (specifier_numbers s) ≡ false → ReadSoFar (piece ∷ left) all items is_large
    → ReadSoFar left all (items ++ s ∷ []) is_large
read_within {piece} {left} {all} s other some within r = record {
  so_far = r.so_far ++ s ∷ [];
  whole = more-whole piece left all r.so_far s other some r.whole;
  small = λ e. (ap (λ xs. xs ++ s ∷ []) (r.small e).0, more-numbers r.so_far s ∙ or_false _ _ (r.small e).1 ∙ within);
  large = λ e. more-numbers r.so_far s ∙ or_left _ _ (r.large e);
}

-- one with a number past the limit
pub read_large : {piece : List ℕ} {left all : List (List ℕ)} {items more : List Specifier} {is_large : Bool} (s : Specifier) → list_all is_white piece ≡ false
    → specifier_of piece ≡ Some s → has_large (specifier_numbers s) ≡ true → ReadSoFar (piece ∷ left) all items is_large
    → ReadSoFar left all more true
read_large {piece} {left} {all} s other some past r = record {
  so_far = r.so_far ++ s ∷ [];
  whole = more-whole piece left all r.so_far s other some r.whole;
  small = λ e. absurd (let n : true ≡ false = e in cc);
  large = λ _. more-numbers r.so_far s ∙ or_right _ _ past;
}

pub read_end : {all : List (List ℕ)} {items : List Specifier} → ReadSoFar [] all items false
    → (specifiers_of all ≡ Some items) × (has_large (flat_map specifier_numbers items) ≡ false)
unfolding specifiers_of
read_end {all} {items} r =
    let same = (r.small refl).0 in
    let within : has_large (flat_map specifier_numbers items) ≡ false = ap (λ xs. has_large (flat_map specifier_numbers xs)) same ∙ (r.small refl).1 in
    (r.whole ∙ ap Some (append-nil r.so_far ∙ sym same), within)

pub read_end_large : {all : List (List ℕ)} {items : List Specifier} → ReadSoFar [] all items true
    → (specifiers : List Specifier) × (specifiers_of all ≡ Some specifiers) × (has_large (flat_map specifier_numbers specifiers) ≡ true)
unfolding specifiers_of
read_end_large r = (r.so_far, r.whole ∙ ap Some (append-nil r.so_far), r.large refl)
