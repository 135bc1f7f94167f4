-- What `{}` writes of a `u128` is its text in base ten.
use Rattle.std.proofs.Common.{◌≡◌, ℕ, zero, suc, ◌+◌, ◌/◌, ◌%◌, ◌^◌, ◌<◌, [], ◌∷◌, ◌++◌, map, sym, ap, ◌∙◌, arith}
use Rattle.std.specs.Fmt.{decimal}
use Rattle.std.specs.Int.Digits.{digits_of}
use Rattle.std.proofs.lemmas.Fmt.{decimal_by_steps_wide, decimal_digit}
use Rattle.std.proofs.lemmas.Int.Digits.{digits_of_step}
use Rattle.std.proofs.lemmas.List.{map_push}
use Rattle.std.proofs.lemmas.Str.{encode_ascii}
use lib.Utf8.{encode}
use Rattle.pyver_core.specs.Version.Normal.{decimal_text}

decimal-digits : (n : ℕ) → 0 < n → n < 10 ^ 64 → decimal n ≡ map (λ d. 48 + d) (digits_of 10 n)
decimal-digits n some small = decimal_by_steps_wide (λ m ds. 0 < m → ds ≡ map (λ d. 48 + d) (digits_of 10 m))
    (λ m l a. let z : m / 10 ≡ 0 = omega arith in let e : m % 10 ≡ m = omega arith in sym (ap (map (λ d. 48 + d)) (digits_of_step 10 m (omega arith) a ∙ (λ i. digits_of 10 (z i) ++ (e i ∷ [])))))
    (λ m ds l h a. ap (λ x. x ++ ((48 + m % 10) ∷ [])) (h (omega arith)) ∙ sym (map_push (λ d. 48 + d) (digits_of 10 (m / 10)) (m % 10)) ∙ ap (map (λ d. 48 + d)) (sym (digits_of_step 10 m (omega arith) a)))
    n small some

-- the code writes `decimal n`
pub decimal_is_text : (n : ℕ) → n < 2 ^ 128 → decimal n ≡ decimal_text n
decimal_is_text zero fits = decimal_digit 0 (omega arith)
decimal_is_text (suc n) fits = decimal-digits (suc n) (omega arith) (omega arith)

-- a number of one digit
pub digit_is_text : (n : ℕ) → n < 10 → decimal_text n ≡ encode (48 + n)
digit_is_text n small = sym (decimal_is_text n (omega arith)) ∙ decimal_digit n small ∙ sym (encode_ascii (48 + n) (omega arith))
