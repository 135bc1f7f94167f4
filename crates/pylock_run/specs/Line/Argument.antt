-- What follows the command of a line and a space: its argument.
use Rattle.std.specs.Prelude.{ℕ, ◌==◌, ◌&&◌, not, false, nat_le, Bool, length, List, [], ◌∷◌}
use Rattle.std.specs.Prelude.{if◌then◌else◌, filter, Result, Ok, Err}
use Rattle.std.specs.List.{before_first, after_first, list_any, list_all, slice_split}
use Rattle.std.specs.Char.{is_ascii_digit}
use Rattle.std.specs.Str.Parse.{digits_value}
use Rattle.pylock_run.specs.declared.line.refusal.LineRefusal.{LineRefusal}
use Rattle.pylock_run.specs.declared.line.refusal.LineRefusal.TheVariants as refusal

abbrev pub is_space : ℕ → Bool
is_space b = b == 32

-- a text that isn't empty
abbrev pub nonempty_text : List ℕ → Result (List ℕ) LineRefusal
nonempty_text [] = Err refusal.Argument
nonempty_text (b ∷ bs) = Ok (b ∷ bs)

-- what stands before and after the first space, which has to be there
abbrev pub split_at_space : List ℕ → Result (List ℕ × List ℕ) LineRefusal
split_at_space text =
    if list_any is_space text
    then Ok (before_first is_space text, after_first is_space text)
    else Err refusal.Argument

-- the most digits of an entry's number
abbrev pub most_number_digits : ℕ
most_number_digits = 6

-- an entry's number: digits, at least one and not too many, the first not `0`
abbrev pub is_entry_number : List ℕ → Bool
is_entry_number [] = false
is_entry_number (first ∷ rest) =
    not (first == 48) && nat_le (length (first ∷ rest)) most_number_digits
    && list_all is_ascii_digit (first ∷ rest)

abbrev pub number_argument : List ℕ → Result ℕ LineRefusal
number_argument text =
    if is_entry_number text then Ok (digits_value 10 text) else Err refusal.Argument

-- the pieces between the spaces that aren't empty
abbrev pub is_nonempty : List ℕ → Bool
is_nonempty text = not (length text == 0)

abbrev pub pieces : List ℕ → List (List ℕ)
pieces text = filter is_nonempty (slice_split is_space text)
