-- Classes of bytes, and whether a text begins with a byte of one.
use Rattle.std.specs.Prelude.{ℕ, ◌==◌, ◌&&◌, ◌||◌, nat_le, Bool, false, List, [], ◌∷◌}
use Rattle.std.specs.Char.{is_ascii_alphanumeric}

-- TAB, LF, VT, FF, CR and space
abbrev pub is_white : ℕ → Bool
is_white b = (b == 32) || (nat_le 9 b && nat_le b 13)

-- `-`, `_` and `.`
abbrev pub is_separator : ℕ → Bool
is_separator b = (b == 45) || ((b == 95) || (b == 46))

-- an ASCII letter or digit, or `_`
abbrev pub is_word_byte : ℕ → Bool
is_word_byte b = is_ascii_alphanumeric b || (b == 95)

-- an ASCII letter or digit, or a separator
abbrev pub is_name_byte : ℕ → Bool
is_name_byte b = is_ascii_alphanumeric b || is_separator b

-- whether the first byte passes a test
abbrev pub starts : (ℕ → Bool) → List ℕ → Bool
starts test [] = false
starts test (b ∷ rest) = test b
