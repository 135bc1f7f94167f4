-- Package URLs of type `pypi` (purl specification, "purl-types: pypi").
use Rattle.std.specs.Prelude.{ℕ, Bool, ◌==◌, ◌||◌, ◌+◌, ◌/◌, ◌%◌, ◌++◌, codes, List, [], ◌∷◌}
use Rattle.std.specs.Prelude.{Option, if◌then◌else◌, nat_lt}
use Rattle.std.specs.Char.{is_ascii_alphanumeric}
use Rattle.std.specs.List.{flat_map}
use Rattle.std.specs.Option.{option_map_or}
use Rattle.std.specs.Result.{result_ok}
use Rattle.pyver_core.specs.Name.{normal_name}
use Rattle.pyver_core.specs.Parsed.{parsed_version}
use Rattle.pyver_core.specs.Version.Normal.{normal_text}

-- the normal form of a version (PEP 440, "Normalization"); a text that is none stays
abbrev pub normal_version : List ℕ → List ℕ
normal_version text = option_map_or normal_text (result_ok (parsed_version text)) text

-- ---- percent-encoding (purl specification, "Character encoding"; RFC 3986, section 2.1)

-- an ASCII letter or digit, `.`, `-`, `_`, `~` or `:`
abbrev pub is_plain : ℕ → Bool
is_plain b = is_ascii_alphanumeric b || b == 46 || b == 45 || b == 95 || b == 126 || b == 58

-- the hex digit of a number below 16, in upper case
abbrev pub hex_digit : ℕ → ℕ
hex_digit n = if nat_lt n 10 then n + 48 else n + 55

-- a byte that stays, or `%` and its two hex digits
abbrev pub escaped : ℕ → List ℕ
escaped b = if is_plain b then b ∷ [] else 37 ∷ hex_digit (b / 16) ∷ hex_digit (b % 16) ∷ []

-- ---- the package URL

-- `@` and the version
abbrev pub purl_version : Option (List ℕ) → List ℕ
purl_version version =
    option_map_or (λ text. codes "@" ++ flat_map escaped (normal_version text)) version []

-- the name and the version, each in normal form
abbrev pub purl : List ℕ → Option (List ℕ) → List ℕ
purl name version =
    codes "pkg:pypi/" ++ flat_map escaped (normal_name name) ++ purl_version version
