-- The time at which a document was made (SPDX 2.3, section 6.9): `YYYY-MM-DDThh:mm:ssZ`.
use Rattle.std.specs.Prelude.{ℕ, Bool, false, ◌==◌, ◌&&◌, ◌+◌, ◌*◌, List, [], ◌∷◌, length}
use Rattle.std.specs.Prelude.{Option, Some, None, if◌then◌else◌}
use Rattle.std.specs.Char.{digit_value, is_ascii_digit}
use Rattle.std.specs.Int.{is_in_range}
use Rattle.std.specs.Option.{option_map_or}
use Rattle.pytext.specs.Options.{◌>>=◌}

-- two digits, whose number lies between these two
abbrev pub is_two_digits : ℕ → ℕ → ℕ → ℕ → Bool
is_two_digits least most tens ones =
    is_ascii_digit tens && is_ascii_digit ones
    && is_in_range least most (digit_value tens * 10 + digit_value ones)

-- what stands behind two digits, whose number lies between these two, and this mark
abbrev pub after_field : ℕ → ℕ → ℕ → List ℕ → Option (List ℕ)
after_field least most mark [] = None
after_field least most mark (tens ∷ []) = None
after_field least most mark (tens ∷ ones ∷ []) = None
after_field least most mark (tens ∷ ones ∷ end ∷ rest) =
    if end == mark && is_two_digits least most tens ones then Some rest else None

-- what stands behind two digits
abbrev pub after_two : List ℕ → Option (List ℕ)
after_two [] = None
after_two (a ∷ []) = None
after_two (a ∷ b ∷ rest) = if is_ascii_digit a && is_ascii_digit b then Some rest else None

-- what stands behind the year, month, day, hour, minute and second
abbrev pub after_time : List ℕ → Option (List ℕ)
after_time text =
    after_two text >>= after_field 0 99 45 >>= after_field 1 12 45 >>= after_field 1 31 84
    >>= after_field 0 23 58 >>= after_field 0 59 58 >>= after_field 0 59 90

-- a time, and nothing behind it
abbrev pub is_created : List ℕ → Bool
is_created text = option_map_or (λ rest. length rest == 0) (after_time text) false
