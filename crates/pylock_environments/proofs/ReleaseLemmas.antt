-- Texts that begin as those of releases do, and end in a number.
use Rattle.std.proofs.Common.{◌≡◌, ℕ, ◌+◌, ◌<◌, ◌≤◌, ◌^◌, suc, Bool, true, false, ◌==◌, ◌&&◌, ◌||◌, not, nat_le, List, [], ◌∷◌, ◌++◌, length, get_or, slice_index, arith, rules, refl, sym, ap, ◌∙◌, subst, zero, zero-add, eq-eqb}
use Rattle.std.specs.Char.{is_ascii_digit}
use Rattle.std.specs.Fmt.{decimal}
use Rattle.std.specs.List.{All, list_all, list_any, range_with_len}
use Rattle.std.specs.Str.{bytes_eq}
use Rattle.std.specs.Str.Parse.{digits_value}
use Rattle.std.proofs.lemmas.Bool.{and_parts, false_from_ne_true, false≢true, le-leb, leb-true}
use Rattle.std.proofs.lemmas.Bool.Decides.{nat_tests}
use Rattle.std.proofs.lemmas.Fmt.{decimal-digits_value, decimal_digit, decimal_nonempty, digits_decimal, digits_value-decimal, first_decimal}
use Rattle.std.proofs.lemmas.List.Elements.{All-from_get_or}
use Rattle.std.proofs.lemmas.List.Folds.{list_any_at, list_any_none}
use Rattle.std.proofs.lemmas.List.FromFn.{get_or-range_with_len, length-range_with_len}
use Rattle.std.proofs.lemmas.Slice.Eq.{bytes_eq-Decides}
use Rattle.std.proofs.lemmas.Str.Parse.{IsNumeralModel, numerals_by_value}
use Rattle.pytext.specs.Digits.{is_number}
use Rattle.pylock_environments.specs.Inner.{is_plain_number}
use Rattle.pylock_environments.specs.Releases.{is_among}

own : IsNumeralModel (λ ds. list_all is_ascii_digit ds ≡ true) (digits_value 10)
own = numerals_by_value (λ ds. list_all is_ascii_digit ds ≡ true) (search rules)

-- ---- plain numbers

plain_by : (ds : List ℕ) → list_all is_ascii_digit ds ≡ true → 0 < length ds → (get_or ds 0 0 ≡ 48 → length ds ≡ 1) → is_plain_number ds ≡ true
plain_by ds all some lead = grind (arith, nat_tests)

lead_decimal : (n : ℕ) → n < 2 ^ 64 → get_or (decimal n) 0 0 ≡ 48 → length (decimal n) ≡ 1
lead_decimal zero small zero_first = rw (decimal_digit 0 (omega arith)) refl
lead_decimal (suc n) small zero_first =
    let first = first_decimal (suc n) (omega arith) small in omega arith

-- what is written of a number is a plain number
plain_decimal : (n : ℕ) → n < 2 ^ 64 → is_plain_number (decimal n) ≡ true
plain_decimal n small = plain_by (decimal n) (digits_decimal own n small) (decimal_nonempty n small) (lead_decimal n small)

-- a plain number is what is written of its value
decimal_plain : (ds : List ℕ) → is_plain_number ds ≡ true → digits_value 10 ds < 2 ^ 64 → decimal (digits_value 10 ds) ≡ ds
decimal_plain ds plain small =
    let tests = and_parts (is_number ds) ((length ds == 1) || not (slice_index ds 0 == 48)) plain in
    let number = and_parts (not (length ds == 0)) (list_all is_ascii_digit ds) tests.0 in
    let some : 0 < length ds = grind (arith, nat_tests) in
    let lead : get_or ds 0 0 ≡ 48 → length ds ≡ 1 = λ zero. grind (arith, nat_tests) in
    decimal-digits_value own ds number.1 some lead small

-- ---- numbers up to the last

all_below : (n : ℕ) (P : ℕ → Type 0) → ((m : ℕ) → m < n → P m) → All P (range_with_len 0 n)
all_below n P each = All-from_get_or P (range_with_len 0 n) 0 here
  where
    here : (i : ℕ) → i < length (range_with_len 0 n) → P (get_or (range_with_len 0 n) i 0)
    here i within =
        let below : i < n = omega (arith, within, length-range_with_len 0 n) in
        subst P (sym (get_or-range_with_len 0 n i 0 below ∙ zero-add i)) (each i below)

-- a plain number up to the last is one of them
among_true : (ds : List ℕ) (last : ℕ) → last < 2 ^ 8 → is_plain_number ds ≡ true → digits_value 10 ds ≤ last → is_among ds [] last ≡ true
unfolding is_among
among_true ds last small plain most =
    let below : digits_value 10 ds < last + 1 = omega arith in
    let here = get_or-range_with_len 0 (last + 1) (digits_value 10 ds) 0 below ∙ zero-add (digits_value 10 ds) in
    list_any_at (λ n. bytes_eq ds (decimal n)) (range_with_len 0 (last + 1)) (digits_value 10 ds) 0 (omega (arith, below, length-range_with_len 0 (last + 1)))
    ((bytes_eq-Decides ds _).1 (sym (ap decimal here ∙ decimal_plain ds plain (omega arith))))

-- whatever isn't, is none of them
among_false : (ds : List ℕ) (last : ℕ) → last < 2 ^ 8 → (is_plain_number ds && nat_le (digits_value 10 ds) last) ≡ false → is_among ds [] last ≡ false
unfolding is_among
among_false ds last small other = list_any_none _ (range_with_len 0 (last + 1)) (all_below (last + 1) _ (λ n below. false_from_ne_true _ (none n below)))
  where
    none : (n : ℕ) → n < last + 1 → bytes_eq ds (decimal n) ≡ true → ⊥
    none n below same =
        let is : ds ≡ decimal n = (bytes_eq-Decides ds (decimal n)).0 same in
        let fits : n < 2 ^ 64 = omega arith in
        let plain : is_plain_number ds ≡ true = rw is (plain_decimal n fits) in
        let value : digits_value 10 ds ≡ n = rw is (digits_value-decimal own n fits) in
        let most : nat_le (digits_value 10 ds) last ≡ true = le-leb (digits_value 10 ds) last (omega arith) in
        false≢true (sym other ∙ rw (plain, most) refl)

pub plain_up_to : (ds : List ℕ) (last : ℕ) → last < 2 ^ 8 → is_among ds [] last ≡ (is_plain_number ds && nat_le (digits_value 10 ds) last)
plain_up_to ds last small = by (is_plain_number ds && nat_le (digits_value 10 ds) last) refl
  where
    by : (r : Bool) → (is_plain_number ds && nat_le (digits_value 10 ds) last) ≡ r → is_among ds [] last ≡ r
    by true is =
        let tests = and_parts (is_plain_number ds) (nat_le (digits_value 10 ds) last) is in
        among_true ds last small tests.0 (leb-true (digits_value 10 ds) last tests.1)
    by false is = among_false ds last small is

-- ---- what stands in front

bytes_behind : (front xs ys : List ℕ) → bytes_eq (front ++ xs) (front ++ ys) ≡ bytes_eq xs ys
bytes_behind [] xs ys = refl
bytes_behind (b ∷ front) xs ys = rw (eq-eqb b b refl) (bytes_behind front xs ys)

any_behind : (front rest numbers : List ℕ) → list_any (λ n. bytes_eq (front ++ rest) (front ++ decimal n)) numbers ≡ list_any (λ n. bytes_eq rest (decimal n)) numbers
any_behind front rest [] = refl
any_behind front rest (n ∷ numbers) = rw (bytes_behind front rest (decimal n), any_behind front rest numbers) refl

-- a text that begins so is judged by the rest
pub among_behind : (text front rest : List ℕ) (last : ℕ) → text ≡ front ++ rest → is_among text front last ≡ is_among rest [] last
unfolding is_among
among_behind text front rest last is = rw is (any_behind front rest (range_with_len 0 (last + 1)))

-- one that begins otherwise is none of them
pub among_none : (text front : List ℕ) (last : ℕ) → ((rest : List ℕ) → text ≡ front ++ rest → ⊥) → is_among text front last ≡ false
unfolding is_among
among_none text front last other =
    list_any_none _ (range_with_len 0 (last + 1))
    (all_below (last + 1) _ (λ n below. false_from_ne_true _ (λ same. other (decimal n) ((bytes_eq-Decides text (front ++ decimal n)).0 same))))
