-- The characters that a part of a line may have. All are ASCII, and none ends a line or is a space.
use Rattle.std.specs.Prelude.{ℕ, Bool, ◌==◌, ◌||◌, List, codes}
use Rattle.std.specs.Char.{is_ascii_alphanumeric, is_ascii_digit, is_ascii_lowercase}
use Rattle.std.specs.Int.{is_in_range}
use Rattle.std.specs.List.{list_any}
use Rattle.pylock_exports.specs.declared.class.Class.{Class}
use Rattle.pylock_exports.specs.declared.class.Class.TheVariants as class

-- one of these characters
abbrev pub is_one_of : List ℕ → ℕ → Bool
is_one_of characters c = list_any (λ other. c == other) characters

-- of a URL that pip reads: no `=` and no `&`, since it looks for `sha256=`, `egg=` and
-- `subdirectory=` wherever they stand
abbrev pub is_pip_url_character : ℕ → Bool
is_pip_url_character c = is_ascii_alphanumeric c || is_one_of (codes "-._~/:@%+,!?") c

-- a character of the class; a name is in normal form (PEP 503)
abbrev pub allows : Class → ℕ → Bool
allows class.Name c = is_ascii_lowercase c || is_ascii_digit c || c == 45
allows class.Url c = is_pip_url_character c || is_one_of (codes "=&") c
allows class.PipUrl c = is_pip_url_character c
allows class.Host c = is_ascii_alphanumeric c || is_one_of (codes "-.:") c
allows class.Path c = is_ascii_alphanumeric c || is_one_of (codes "-._+/") c
allows class.FileName c = is_ascii_alphanumeric c || is_one_of (codes "-._+!") c
allows class.LowerHex c = is_in_range 48 57 c || is_in_range 97 102 c
allows class.Hex c = is_in_range 48 57 c || is_in_range 97 102 c || is_in_range 65 70 c
allows class.Alphanumeric c = is_ascii_alphanumeric c
