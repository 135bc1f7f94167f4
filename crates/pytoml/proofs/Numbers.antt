-- Integers that digits alone write.
use Rattle.std.proofs.Common.{◌≡◌, ℕ, ◌+◌, ◌*◌, ◌-◌, ◌<◌, ◌≤◌, true, false, ◌==◌, ◌&&◌, ◌||◌, List, length, get_or, slice_index, take, drop, Some, pos, arith, rules, refl, sym, ap, ◌∙◌, subst}
use Rattle.std.proofs.lemmas.Bool.{or_parts}
use Rattle.std.proofs.lemmas.Bool.Decides.{nat_tests}
use Rattle.std.proofs.lemmas.Fmt.{decimal-digits_value}
use Rattle.std.proofs.lemmas.Int.Digits.{digits_value_more}
use Rattle.std.proofs.lemmas.List.{get_or-take, length-take-le, take-append-drop}
use Rattle.std.proofs.lemmas.List.Folds.{list_all_more}
use Rattle.std.proofs.lemmas.Str.Parse.{IsNumeralModel, numerals_by_value}
use Rattle.std.specs.Char.{is_ascii_digit, digit_value}
use Rattle.std.specs.List.{list_all}
use Rattle.std.specs.Str.Parse.{digits_value}
use Rattle.toml_parser.specs.declared.scalar.Scalar.TheVariants.{Integer}
use Rattle.toml_parser.specs.Lexical.{first, is_word}
use Rattle.toml_parser.specs.Numbers.{unquoted}
use Rattle.toml_parser.proofs.NumbersLemmas.{list_all-at}
use Rattle.toml_writer.proofs.Scalars.{IsWord, IsWord-pos, unquoted-word}

-- one more digit
pub digits_more : (bs : List ℕ) (n : ℕ) → n < length bs → is_ascii_digit (get_or bs n 0) ≡ true → list_all is_ascii_digit (take n bs) ≡ true
    → (list_all is_ascii_digit (take (n + 1) bs) ≡ true) × (digits_value 10 (take (n + 1) bs) ≡ digits_value 10 (take n bs) * 10 + (get_or bs n 0 - 48)) × (get_or bs n 0 ≤ 57)
digits_more bs n within here all =
    let digit : digit_value (get_or bs n 0) ≡ get_or bs n 0 - 48 = grind (arith, nat_tests) in
    let most : get_or bs n 0 ≤ 57 = grind (arith, nat_tests) in
    (list_all_more is_ascii_digit bs n 0 within ∙ rw (all, here), digits_value_more 10 bs n within ∙ ap (λ d. digits_value 10 (take n bs) * 10 + d) digit, most)

-- each of the bytes is one of these
pub digit_bounds : (s : List ℕ) (n i : ℕ) → n ≤ length s → list_all is_ascii_digit (take n s) ≡ true → i < n → (48 ≤ get_or s i 0) × (get_or s i 0 ≤ 57)
digit_bounds s n i within all below =
    let here : is_ascii_digit (get_or s i 0) ≡ true =
    rw (← get_or-take n s i 0 below) (list_all-at is_ascii_digit (take n s) i all (omega (arith, length-take-le n s within))) in
    (grind (arith, nat_tests), grind (arith, nat_tests))

own : IsNumeralModel (λ ds. list_all is_ascii_digit ds ≡ true) (digits_value 10)
own = numerals_by_value (λ ds. list_all is_ascii_digit ds ≡ true) (search rules)

integer_word : (w : List ℕ) → list_all is_ascii_digit w ≡ true → 0 < length w → (get_or w 0 0 ≡ 48 → length w ≡ 1) → digits_value 10 w < 1000000000000000000
    → IsWord w (Integer (pos (digits_value 10 w)))
integer_word w digits some lead small =
    subst (λ t. IsWord t (Integer (pos (digits_value 10 w)))) (decimal-digits_value own w digits some lead (omega arith)) (IsWord-pos (digits_value 10 w) (omega arith))

-- digits that no word goes on with are an integer
pub integer_read : (s rest : List ℕ) (n value : ℕ) → n ≤ length s → 0 < n → list_all is_ascii_digit (take n s) ≡ true → value ≡ digits_value 10 (take n s)
    → value < 1000000000000000000 → (get_or s 0 0 ≡ 48 → n ≤ 1) → rest ≡ drop n s → (is_word (first rest) || (first rest == 32 && is_ascii_digit (slice_index rest 1))) ≡ false
    → unquoted s ≡ Some (Integer (pos value), rest)
integer_read s rest n value within some digits is small lead after ends =
    let long = length-take-le n s within in
    let first_is = get_or-take n s 0 0 some in
    let word = integer_word (take n s) digits (omega arith) (λ zero. let short = lead (sym first_is ∙ zero) in omega arith) (omega arith) in
    let stop = or_parts (is_word (first rest)) (first rest == 32 && is_ascii_digit (slice_index rest 1)) ends in
    ap unquoted (sym (take-append-drop n s)) ∙ unquoted-word (take n s) (drop n s) _ word.some word.all (rw after at stop) word.value ∙ rw (is, after) refl
