-- Names that are their own normal form.
use Rattle.std.specs.Prelude.{◌≡◌, ℕ, ◌==◌, ◌<◌, ◌&&◌, ◌||◌, not, Bool, false, true, List, [], ◌∷◌}
use Rattle.std.specs.Prelude.{length, if◌then◌else◌}
use Rattle.std.specs.Char.{is_ascii_digit, is_ascii_lowercase, to_ascii_lowercase}
use Rattle.pytext.specs.Bytes.{is_separator}
use Rattle.pyver_core.specs.Name.{normal_name}

-- a byte that a normal form may have
abbrev pub is_normal_byte : ℕ → Bool
is_normal_byte b = is_ascii_lowercase b || is_ascii_digit b || (b == 45)

-- whether a name goes on in normal form, behind a `-` or not
abbrev pub is_normal_rest : Bool → List ℕ → Bool
is_normal_rest after_dash [] = true
is_normal_rest after_dash (b ∷ rest) =
    if (after_dash && (b == 45)) || not (is_normal_byte b)
    then false
    else is_normal_rest (b == 45) rest

-- the normal form of a text begins with this byte, and goes on with that of this shorter text
pub record BeginsNormal (text : List ℕ) (byte : ℕ) (behind : List ℕ) : Type 0 where
  pub begins : normal_name text ≡ byte ∷ normal_name behind
  pub shorter : length behind < length text

-- what a byte adds to a normal form, behind a separator or not
abbrev pub added : Bool → ℕ → List ℕ
added in_run b =
    if is_separator b
    then (if in_run then [] else 45 ∷ [])
    else to_ascii_lowercase b ∷ []
