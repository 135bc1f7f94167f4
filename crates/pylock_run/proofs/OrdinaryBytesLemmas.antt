-- A text without a byte to escape.
use Rattle.std.proofs.Common.{◌≡◌, ◌∙◌, ◌<◌, ◌≤◌, ◌+◌, ◌-◌, ◌*◌, ◌/◌, ◌%◌, ◌==◌, ℕ, Bool, true, List, [], ◌∷◌, ◌++◌, ap, sym, refl, subst, take, drop, length, zero, suc, nat_lt, arith}
use Rattle.std.proofs.lemmas.Bool.{and_parts, not-true, ne_eqb, ltb-true, eqb-true}
use Rattle.std.proofs.lemmas.List.{take-append-drop, drop-drop, length-drop, nil_from_length}
use Rattle.std.proofs.lemmas.List.Folds.{list_all-append}
use Rattle.std.proofs.lemmas.Nat.{mod_below}
use Rattle.std.specs.List.{list_all}
use Rattle.std.specs.Simd.{first_chunks}
use Rattle.pylock_run.specs.Text.Field.{escape_byte, escaped_text}
use Rattle.pylock_run.specs.Inner.Fields.{is_ordinary}

ordinary_byte_stands : (b : ℕ) → is_ordinary b ≡ true → escape_byte b ≡ b ∷ []
ordinary_byte_stands b ordinary =
    let (above, other) = and_parts (nat_lt 13 b) _ ordinary in
    let high : 13 < b = ltb-true 13 b above in
    rw (ne_eqb b 9 (λ is. omega arith), ne_eqb b 10 (λ is. omega arith), ne_eqb b 13 (λ is. omega arith), not-true (b == 92) other) refl

-- it stands in a field as it is
pub ordinary_stands : (text : List ℕ) → list_all is_ordinary text ≡ true → escaped_text text ≡ text
ordinary_stands [] ordinary = refl
ordinary_stands (b ∷ bs) ordinary =
    let (here, more) = and_parts (is_ordinary b) (list_all is_ordinary bs) ordinary in
    ap (λ prefix. prefix ++ escaped_text bs) (ordinary_byte_stands b here) ∙ ap (λ rest. b ∷ rest) (ordinary_stands bs more)

module _ {X : Type 0} (test : X → Bool) where
  all_joined : (xs ys : List X) → list_all test xs ≡ true → list_all test ys ≡ true → list_all test (xs ++ ys) ≡ true
  all_joined xs ys first last = list_all-append test xs ys ∙ rw (first, last) refl

  all_drop : (n : ℕ) (xs : List X) → list_all test xs ≡ true → list_all test (drop n xs) ≡ true
  all_drop zero xs all = all
  all_drop (suc n) [] all = refl
  all_drop (suc n) (x ∷ xs) all = all_drop n xs (and_parts (test x) (list_all test xs) all).1

  -- chunks and what is left behind them make up the list
  all_chunks : (size count : ℕ) (xs : List X) → list_all (list_all test) (first_chunks size count xs) ≡ true
      → list_all test (drop (count * size) xs) ≡ true → list_all test xs ≡ true
  all_chunks size zero xs chunks rest =
      let none : 0 * size ≡ 0 = omega arith in
      subst (λ n. list_all test (drop n xs) ≡ true) none rest
  all_chunks size (suc count) xs chunks rest =
      let (first, more) = and_parts (list_all test (take size xs)) _ chunks in
      let next : suc count * size ≡ size + count * size = omega arith in
      let left : drop (suc count * size) xs ≡ drop (count * size) (drop size xs)
      = ap (λ n. drop n xs) next ∙ sym (drop-drop (count * size) size xs) in
      subst (λ ys. list_all test ys ≡ true) (take-append-drop size xs)
      (all_joined (take size xs) (drop size xs) first
      (all_chunks size count (drop size xs) more (subst (λ ys. list_all test ys ≡ true) left rest)))

  pub all_by_chunks : (size : ℕ) (xs rest : List X)
      → list_all (list_all test) (first_chunks size (length xs / size) xs) ≡ true
      → rest ≡ drop (length xs / size * size) xs → (length rest == 0) ≡ true
      → list_all test xs ≡ true
  all_by_chunks size xs rest chunks is none =
      let empty : rest ≡ [] = nil_from_length rest (eqb-true (length rest) 0 none) in
      all_chunks size (length xs / size) xs chunks
      (subst (λ ys. list_all test ys ≡ true) (sym empty ∙ is) refl)

  -- the last chunk may lie over those before it
  pub all_by_last : (size : ℕ) (xs rest : List X) → 0 < size → size ≤ length xs
      → list_all (list_all test) (first_chunks size (length xs / size) xs) ≡ true
      → rest ≡ drop (length xs / size * size) xs → length rest ≡ length xs % size
      → list_all test (drop (length xs - size) xs) ≡ true → list_all test xs ≡ true
  all_by_last size xs rest some long chunks is short last =
      let whole = length xs / size * size in
      let below : length xs % size < size = mod_below (length xs) size some in
      let left : length xs - whole ≡ length xs % size = sym (length-drop whole xs) ∙ ap length (sym is) ∙ short in
      let position : whole ≡ length xs - size + (whole - (length xs - size)) = omega arith in
      all_chunks size (length xs / size) xs chunks
      (subst (λ ys. list_all test ys ≡ true)
      (drop-drop (whole - (length xs - size)) (length xs - size) xs ∙ ap (λ n. drop n xs) (sym position))
      (all_drop (whole - (length xs - size)) (drop (length xs - size) xs) last))
