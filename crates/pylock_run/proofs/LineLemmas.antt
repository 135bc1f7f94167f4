-- Lemmas on the text of one line.
use Rattle.std.proofs.Common.{◌≡◌, ℕ, ◌<◌, ◌≤◌, ◌^◌, List, [], ◌∷◌, length, Bool, true, false, cond, Result, Ok, Err, arith, rules, not, ◌+◌, ◌==◌, ◌&&◌, ◌||◌, nat_le, refl}
use Rattle.std.specs.List.{list_all, list_any, position_or_len}
use Rattle.std.specs.Char.{is_ascii_digit}
use Rattle.std.specs.Str.{IsUtf8}
use Rattle.std.specs.Str.Parse.{ParsesUnsigned, digits_value}
use Rattle.std.proofs.lemmas.Str.{IsUtf8-from_is_utf8, is_utf8-from_IsUtf8}
use Rattle.std.proofs.lemmas.Str.Parse.{IsNumeralModel, numerals_by_value, parse_gives, digits_value_short}
use Rattle.std.proofs.lemmas.Bool.{le-ltb, leb-true, and_parts, false_from_ne_true, false≢true}
use Rattle.pylock_run.specs.Line.{command_of, text_command, without_cr, line_limit}
use Rattle.pylock_run.specs.Line.Argument.{is_entry_number, is_space}
use Rattle.pylock_run.specs.declared.line.refusal.LineRefusal.TheVariants as refusal

-- the digits of an entry's number, in std's words
digits : IsNumeralModel (λ ds. list_all is_ascii_digit ds ≡ true) (digits_value 10)
digits = numerals_by_value _ record { empty = refl; parts = λ c cs h. search (rules, and_parts); more = λ c cs h k. search rules }

six_digits_fit : (n : ℕ) → n < 10 ^ 6 → n < 2 ^ 32
six_digits_fit n bound = omega arith

some_length : (b : ℕ) (bs : List ℕ) → 0 < length (b ∷ bs)
some_length b bs = omega arith

-- what `parse` gives at an entry's number
pub parses_entry_number : {E : Type 0} (bs : List ℕ) (r : Result ℕ E) → ParsesUnsigned 32 10 bs r → is_entry_number bs ≡ true → r ≡ Ok (digits_value 10 bs)
parses_entry_number [] r h e = absurd (false≢true e)
parses_entry_number (b ∷ bs) r h e =
    let tests : ((not (b == 48) && nat_le (length (b ∷ bs)) 6) ≡ true) × (list_all is_ascii_digit (b ∷ bs) ≡ true) = and_parts _ _ e in
    let short : length (b ∷ bs) ≤ 6 = leb-true _ _ (and_parts _ _ tests.0).1 in
    let fits : digits_value 10 (b ∷ bs) < 2 ^ 32 = six_digits_fit _ (digits_value_short digits (b ∷ bs) 6 tests.1 short) in
    parse_gives digits 32 (b ∷ bs) r h tests.1 (some_length b bs) fits

pub command_of_text : (line : List ℕ) → length line ≤ line_limit → IsUtf8 (without_cr line) → command_of line ≡ text_command (without_cr line)
command_of_text line short text = rw (le-ltb line_limit (length line) short, is_utf8-from_IsUtf8 _ text)

pub command_of_not_text : (line : List ℕ) → length line ≤ line_limit → (IsUtf8 (without_cr line) → ⊥) → command_of line ≡ Err refusal.Text
command_of_not_text line short none =
    rw (le-ltb line_limit (length line) short, false_from_ne_true _ (λ e. none (IsUtf8-from_is_utf8 _ e)))

-- no space stands in a text that can't be cut at one
pub no_space : (text : List ℕ) → position_or_len is_space text ≡ length text → list_any is_space text ≡ false
no_space [] none = refl
no_space (b ∷ bs) none = step (no_space bs) (is_space b) none
  where
    step : (position_or_len is_space bs ≡ length bs → list_any is_space bs ≡ false)
        → (t : Bool) → cond (not t) (1 + position_or_len is_space bs) 0 ≡ length (b ∷ bs) → (t || list_any is_space bs) ≡ false
    step rest true e = absurd (omega arith)
    step rest false e = rest (omega arith)
