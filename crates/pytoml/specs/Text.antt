-- The bytes that the short way passes over in a basic string, the pieces that it reads there, and
-- the digits of a date-time. Only private clauses cite these words.
use Rattle.std.specs.Prelude.{◌≡◌, ℕ, ◌+◌, ◌/◌, ◌%◌, ◌<◌, Bool, true, false, not, ◌||◌, ◌==◌}
use Rattle.std.specs.Prelude.{nat_lt, List, ◌++◌, length, slice_index, Some}
use Rattle.std.specs.List.{list_all}
use Rattle.std.specs.Char.{is_digit}
use Rattle.std.specs.Str.Parse.{digits_value}
use Rattle.toml_parser.specs.Strings.{body, escape, is_scalar, prepend}

-- a byte that ends the string, begins an escape or is a control character
abbrev pub is_stop : ℕ → Bool
is_stop c = (c == 34) || (c == 92) || (c == 127) || nat_lt c 32

-- any other byte stands for itself
abbrev pub is_simple : ℕ → Bool
is_simple c = not (is_stop c)

-- what stands in a basic string from s on, behind these bytes, is what stands in it from the rest
-- on, behind those
abbrev pub GoesOn : List ℕ → List ℕ → List ℕ → List ℕ → Type 0
GoesOn s old rest new =
    (n : ℕ) → length s < n → (m : ℕ) × (length rest < m)
    × (prepend old (body 34 false n s) ≡ prepend new (body 34 false m rest))

-- an escape, behind its backslash, adds bytes to those before it
abbrev pub Escapes : List ℕ → List ℕ → List ℕ → List ℕ → Type 0
Escapes s old rest new =
    (bytes : List ℕ) × (escape false s ≡ Some (bytes, rest)) × (new ≡ old ++ bytes)

-- hex digits write this character
abbrev pub IsWritten : List ℕ → ℕ → Type 0
IsWritten digits c =
    (list_all (λ d. is_digit d 16) digits ≡ true) × (digits_value 16 digits ≡ c)
    × (is_scalar c ≡ true)

-- the bytes at this place and the next are the two digits of this number
abbrev pub IsTwoWide : List ℕ → ℕ → ℕ → Type 0
IsTwoWide bytes i n =
    (n < 100) × (slice_index bytes i ≡ 48 + n / 10) × (slice_index bytes (i + 1) ≡ 48 + n % 10)
