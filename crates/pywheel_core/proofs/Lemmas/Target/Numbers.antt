-- A number in a text of a target is the decimal of its value.
use Rattle.std.proofs.Common.{◌≡◌, ℕ, zero, suc, ◌<◌, ◌≤◌, ◌^◌, Bool, true, false, ◌==◌, ◌&&◌, ◌||◌, not, nat_lt, if◌then◌else◌, List, [], ◌∷◌, decimal, get_or, length, Some, None, refl, sym, ap, ◌∙◌, inl, inr, arith, rules}
use Rattle.std.proofs.lemmas.Option.{cond_some}
use Rattle.std.proofs.lemmas.Bool.Decides.{Decides-eqb, nat_tests}
use Rattle.std.proofs.lemmas.Bool.{and_parts, cases_Bool}
use Rattle.std.proofs.lemmas.Fmt.{decimal-digits_value, decimal_digit, decimal_nonempty, digits_decimal, digits_value-decimal, first_decimal}
use Rattle.std.proofs.lemmas.Str.Parse.{IsNumeralModel, numerals_by_value}
use Rattle.std.specs.Char.{is_ascii_digit}
use Rattle.std.specs.List.{list_all}
use Rattle.std.specs.Str.Parse.{digits_value}
use Rattle.pytext.specs.Digits.{is_number}
use Rattle.pywheel_core.proofs.Lemmas.Texts.Cuts.{Lacks}
use Rattle.pywheel_core.specs.Target.Reading.{is_plain_number, number_below}

-- the digits of a number, in std's words
digits : IsNumeralModel (λ ds. list_all is_ascii_digit ds ≡ true) (digits_value 10)
digits = numerals_by_value _ record { empty = refl; parts = λ c cs h. search (rules, and_parts); more = λ c cs h k. search rules }

-- ---- what is read as a number is its decimal

pub number_says : (limit : ℕ) (text : List ℕ) (n : ℕ) → limit ≤ 1000 → number_below limit text ≡ Some n → text ≡ decimal n
unfolding number_below
number_says limit text n few h =
    let value = digits_value 10 text in
    let k = cond_some (is_plain_number text && nat_lt value limit) value n h in
    let x = and_parts (is_plain_number text) (nat_lt value limit) k.0 in
    let y = and_parts (is_number text) (not (get_or text 0 0 == 48) || (length text == 1)) x.0 in
    let z = and_parts (not (length text == 0)) (list_all is_ascii_digit text) y.0 in
    let below = x.1 in let lead = y.1 in let some = z.0 in
    let small : value < 2 ^ 64 = grind (arith, nat_tests) in
    let there : 0 < length text = grind (arith, nat_tests) in
    let plain : get_or text 0 0 ≡ 48 → length text ≡ 1 = λ e. grind (arith, nat_tests) in
    sym (decimal-digits_value digits text z.1 there plain small) ∙ ap decimal k.1

-- ---- and the decimal is read

decimal_plain : (n : ℕ) → n < 2 ^ 64 → is_plain_number (decimal n) ≡ true
decimal_plain zero h = ap is_plain_number (decimal_digit 0 (omega arith))
decimal_plain (suc n) h =
    let text = decimal (suc n) in
    let some = decimal_nonempty (suc n) h in
    let first = first_decimal (suc n) (omega arith) h in
    let there : not (length text == 0) ≡ true = grind (arith, nat_tests) in
    let lead : (not (get_or text 0 0 == 48) || (length text == 1)) ≡ true = grind (arith, nat_tests) in
    λ i. (there i && digits_decimal digits (suc n) h i) && lead i

pub number_made : (limit n : ℕ) → limit ≤ 1000 → n < limit → number_below limit (decimal n) ≡ Some n
unfolding number_below
number_made limit n few h =
    let small : n < 2 ^ 64 = omega arith in
    let below : nat_lt n limit ≡ true = grind (arith, nat_tests) in
    ap (λ (t : Bool). if t && nat_lt (digits_value 10 (decimal n)) limit then Some (digits_value 10 (decimal n)) else None) (decimal_plain n small)
    ∙ ap (λ (v : ℕ). if nat_lt v limit then Some v else None) (digits_value-decimal digits n small)
    ∙ ap (λ (t : Bool). if t then Some n else None) below

-- ---- what stands in no number

digits_lack : (c : ℕ) → is_ascii_digit c ≡ false → (s : List ℕ) → list_all is_ascii_digit s ≡ true → Lacks c s
digits_lack c none [] h = refl
digits_lack c none (b ∷ s) h =
    let p = and_parts (is_ascii_digit b) (list_all is_ascii_digit s) h in
    let other : (b == c) ≡ false = elim (cases_Bool (b == c)) [
      | inl e ↦ absurd (let bad : false ≡ true = sym none ∙ ap is_ascii_digit (sym ((Decides-eqb b c).0 e)) ∙ p.0 in cc)
      | inr e ↦ e
    ] in
    rw other (digits_lack c none s p.1)

pub decimal_lacks : (c n : ℕ) → is_ascii_digit c ≡ false → n < 2 ^ 64 → Lacks c (decimal n)
decimal_lacks c n none h = digits_lack c none (decimal n) (digits_decimal digits n h)
