-- The number of digits that are read from the left.
use Rattle.std.proofs.Common.{◌≡◌, ℕ, ◌+◌, ◌*◌, ◌<◌, ◌≤◌, true, List, length, get_or, take, arith}
use Rattle.std.specs.Char.{digit_value, is_ascii_digit}
use Rattle.std.specs.List.{list_all}
use Rattle.std.specs.Str.Parse.{digits_value}
use Rattle.std.proofs.lemmas.Int.Digits.{digits_value_more}
use Rattle.std.proofs.lemmas.List.Sums.{AllPass-from_list_all}
use Rattle.std.proofs.lemmas.Str.Parse.{digits_value-take-le}

pub digit_here : (digits : List ℕ) (i : ℕ) → list_all is_ascii_digit digits ≡ true → i < length digits → is_ascii_digit (get_or digits i 0) ≡ true
digit_here digits i all within = AllPass-from_list_all is_ascii_digit digits all i 0 within

-- one more digit, of a number that is no greater than the whole
pub digit_more : (digits : List ℕ) (i value : ℕ) → i < length digits → value ≡ digits_value 10 (take i digits)
    → (value * 10 + digit_value (get_or digits i 0) ≡ digits_value 10 (take (i + 1) digits)) × (value * 10 + digit_value (get_or digits i 0) ≤ digits_value 10 digits)
digit_more digits i value within is =
    let more = digits_value_more 10 digits i within in
    (omega (arith, more, is), omega (arith, more, is, digits_value-take-le 10 digits (i + 1) (omega arith)))

pub ruleset digits = (digit_here, digit_more)
