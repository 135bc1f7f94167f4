-- Lines and columns of a text, both counted from 1. A column counts characters (Unicode scalar
-- values), as `unicodeCodePoints` of SARIF 2.1.0 has it (section 3.14.17).
use Rattle.std.specs.Prelude.{ℕ, Bool, ◌+◌, ◌==◌, ◌&&◌, List, [], ◌∷◌, nat_le, nat_lt}
use Rattle.std.specs.Prelude.{if◌then◌else◌}
use Rattle.pylock_spans.specs.declared.place.Place.{Place}

-- where a text begins
abbrev pub first_place : Place
first_place = record { line = 1; column = 1 }

-- a byte of a character behind its first (Unicode, section 3.9, "UTF-8")
abbrev pub continues : ℕ → Bool
continues b = nat_le 128 b && nat_lt b 192

-- a line feed ends a line, and the first byte of any other character takes a column
abbrev pub behind : Place → ℕ → Place
behind place b =
    if b == 10 then record { line = place.line + 1; column = 1 }
    else if continues b then place else record { line = place.line; column = place.column + 1 }

-- the place behind these bytes, where they begin at this one
abbrev pub place_behind : Place → List ℕ → Place
place_behind place [] = place
place_behind place (b ∷ bs) = place_behind (behind place b) bs

-- the place behind the bytes with which a text begins
abbrev pub place_of : List ℕ → Place
place_of before = place_behind first_place before
