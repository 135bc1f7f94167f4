-- Names (PEP 508, "Names") and their normal form (PEP 503, "Normalized Names").
use Rattle.std.specs.Prelude.{ℕ, ◌-◌, ◌&&◌, Bool, false, if◌then◌else◌, List, [], ◌∷◌, length}
use Rattle.std.specs.Prelude.{slice_get, Option, option_map, unwrap_or}
use Rattle.std.specs.Char.{is_ascii_alphanumeric, to_ascii_lowercase}
use Rattle.std.specs.List.{list_all}
use Rattle.pytext.specs.Bytes.{is_name_byte, is_separator, starts}

-- an ASCII letter or digit stands there
abbrev pub is_name_end : Option ℕ → Bool
is_name_end byte = unwrap_or (option_map is_ascii_alphanumeric byte) false

-- a name: one or more ASCII letters, digits and separators, of which the first and the last are no
-- separators
abbrev pub is_name : List ℕ → Bool
is_name text = list_all is_name_byte text
    && (is_name_end (slice_get text 0) && is_name_end (slice_get text (length text - 1)))

-- the normal form of any text: each longest run of separators becomes one `-`, that is, the last of
-- a run becomes `-` and the others go; ASCII letters become lower case, and every other byte stays
unfoldable pub normal_name : List ℕ → List ℕ
normal_name [] = []
normal_name (b ∷ rest) =
    if is_separator b
    then (if starts is_separator rest then normal_name rest else 45 ∷ normal_name rest)
    else to_ascii_lowercase b ∷ normal_name rest
