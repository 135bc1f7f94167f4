-- How many pieces a part of a compressed tag set has, judged byte by byte.
use Rattle.std.proofs.Common.{◌≡◌, ℕ, suc, ◌+◌, Bool, true, false, ◌==◌, ◌&&◌, not, nat_lt, if◌then◌else◌, List, [], ◌∷◌, length, count_by, refl, sym, ap, ◌∙◌, inl, inr, arith}
use Rattle.std.proofs.Math.Bool.{and-true, and_assoc}
use Rattle.std.proofs.lemmas.Bool.Decides.{Decides-eqb, nat_tests}
use Rattle.std.proofs.lemmas.List.Splits.{length-slice_split}
use Rattle.std.specs.List.{list_all, onto_first}
use Rattle.std.proofs.lemmas.Bool.{cases_Bool}
use Rattle.pytext.specs.Bytes.{is_word_byte}
use Rattle.pywheel_core.specs.Tag.{are_tag_parts, pieces}

-- whether what is left of a part is as it must be; `is_empty` says that the piece so far is empty
abbrev pub goes_on : Bool → List ℕ → Bool
goes_on is_empty [] = not is_empty
goes_on is_empty (b ∷ rest) =
    if is_word_byte b then goes_on false rest else (((b == 46) && not is_empty) && goes_on true rest)

-- the same of the pieces, the first of which has begun
abbrev begun : List (List ℕ) → Bool
begun [] = true
begun (p ∷ ps) = list_all is_word_byte p && are_tag_parts ps

if_and : (x y : Bool) → (if x then y else false) ≡ (x && y)
if_and true y = refl
if_and false y = refl

begun_onto : (b : ℕ) (ps : List (List ℕ)) → (is_word_byte b && begun ps) ≡ begun (onto_first b ps)
begun_onto b [] = sym (and-true (is_word_byte b && true))
begun_onto b (p ∷ ps) = sym (and_assoc (is_word_byte b) (list_all is_word_byte p) (are_tag_parts ps))

parts_onto : (b : ℕ) (ps : List (List ℕ)) → are_tag_parts (onto_first b ps) ≡ begun (onto_first b ps)
parts_onto b [] = refl
parts_onto b (p ∷ ps) = let e : nat_lt 0 (suc (length p)) ≡ true = grind (arith, nat_tests) in rw e refl

no_dot : (b : ℕ) → (b == 46) ≡ true → is_word_byte b ≡ false
no_dot b e = ap is_word_byte ((Decides-eqb b 46).0 e)

goes_on_is : (s : List ℕ) → (goes_on false s ≡ begun (pieces s)) × (goes_on true s ≡ are_tag_parts (pieces s))
goes_on_is [] = (refl, refl)
goes_on_is (b ∷ s) = let x = goes_on_is s in elim (cases_Bool (b == 46)) [
  | inl e ↦ let f = no_dot b e in (rw (e, f) x.1, rw (e, f) refl)
  | inr e ↦
      let on = if_and (is_word_byte b) (goes_on false s) ∙ (ap (λ t. is_word_byte b && t) x.0 ∙ begun_onto b (pieces s)) in
      (rw e on, rw e (on ∙ sym (parts_onto b (pieces s))))
]

pub goes_on_all : (s : List ℕ) → goes_on true s ≡ are_tag_parts (pieces s)
goes_on_all s = (goes_on_is s).1

pub one_more : (s : List ℕ) → 1 + count_by (λ b. b == 46) s ≡ length (pieces s)
one_more s = let e = length-slice_split (λ b. b == 46) s in omega (arith, e)

-- before the first byte
pub ruleset whole_part = (goes_on_all, one_more)
