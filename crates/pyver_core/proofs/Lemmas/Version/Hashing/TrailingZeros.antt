-- Zeros at the end of a release go one by one.
use Rattle.std.proofs.Common.{◌≡◌, ◌≢◌, ℕ, zero, suc, ◌+◌, ◌-◌, ◌<◌, ◌≤◌, List, [], ◌∷◌, ◌++◌, length, take, get_or, refl, sym, ap, ◌∙◌, arith}
use Rattle.std.proofs.lemmas.List.{take_more}
use Rattle.pyver_core.specs.Version.Hashing.{prepend_unless_trailing, without_trailing_zeros}

prepend_unless_trailing-more : (x y : ℕ) (ys : List ℕ) → prepend_unless_trailing x (y ∷ ys) ≡ x ∷ y ∷ ys
prepend_unless_trailing-more zero y ys = refl
prepend_unless_trailing-more (suc n) y ys = refl

without_trailing_zeros-push_zero : (xs : List ℕ) → without_trailing_zeros (xs ++ 0 ∷ []) ≡ without_trailing_zeros xs
unfolding without_trailing_zeros
without_trailing_zeros-push_zero [] = refl
without_trailing_zeros-push_zero (x ∷ xs) = ap (prepend_unless_trailing x) (without_trailing_zeros-push_zero xs)

without_trailing_zeros-push_other : (xs : List ℕ) (n : ℕ) → without_trailing_zeros (xs ++ suc n ∷ []) ≡ xs ++ suc n ∷ []
unfolding without_trailing_zeros
without_trailing_zeros-push_other [] n = refl
without_trailing_zeros-push_other (x ∷ []) n = prepend_unless_trailing-more x (suc n) []
without_trailing_zeros-push_other (x ∷ y ∷ ys) n = ap (prepend_unless_trailing x) (without_trailing_zeros-push_other (y ∷ ys) n) ∙ prepend_unless_trailing-more x y (ys ++ suc n ∷ [])

-- the numbers up to the i-th, and the i-th
take-last : (xs : List ℕ) (i : ℕ) → 0 < i → i ≤ length xs → take i xs ≡ take (i - 1) xs ++ get_or xs (i - 1) 0 ∷ []
take-last xs i some fits =
    let e : i ≡ (i - 1) + 1 = omega arith in
    ap (λ n. take n xs) e ∙ take_more xs (i - 1) 0 (omega arith)

-- a zero at the end makes no difference
pub strip_zero : (xs : List ℕ) (i : ℕ) → 0 < i → i ≤ length xs → get_or xs (i - 1) 0 ≡ 0
    → without_trailing_zeros (take (i - 1) xs) ≡ without_trailing_zeros (take i xs)
strip_zero xs i some fits here =
    sym (without_trailing_zeros-push_zero (take (i - 1) xs))
    ∙ ap (λ (n : ℕ). without_trailing_zeros (take (i - 1) xs ++ n ∷ [])) (sym here)
    ∙ ap without_trailing_zeros (sym (take-last xs i some fits))

push_other : (xs : List ℕ) (n : ℕ) → n ≢ 0 → without_trailing_zeros (xs ++ n ∷ []) ≡ xs ++ n ∷ []
push_other xs zero other = absurd (other refl)
push_other xs (suc n) other = without_trailing_zeros-push_other xs n

-- a release that ends in another number is stripped
pub stripped_at : (xs : List ℕ) (i : ℕ) → i ≤ length xs → (0 < i → get_or xs (i - 1) 0 ≢ 0) → without_trailing_zeros (take i xs) ≡ take i xs
unfolding without_trailing_zeros
stripped_at xs zero fits other = refl
stripped_at xs (suc n) fits other =
    let e = take-last xs (suc n) (omega arith) fits in
    ap without_trailing_zeros e ∙ push_other (take (suc n - 1) xs) (get_or xs (suc n - 1) 0) (other (omega arith)) ∙ sym e

pub ruleset trailing_zeros = (strip_zero, stripped_at)
