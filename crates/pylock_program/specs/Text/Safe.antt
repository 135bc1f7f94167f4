-- Fields that are safe to show at a terminal.
use Rattle.std.specs.Prelude.{ℕ, ◌==◌, List, Option, Some, None, if◌then◌else◌, codes}
use Rattle.std.specs.Char.{encode_utf8}
use Rattle.std.specs.List.{flat_map}
use Rattle.std.specs.Str.{bytes_eq, chars}
use Rattle.pylock_shown.specs.Visible.{control_text, is_control}

-- how a character stands in such a field: a control character as its number, the backslash doubled
abbrev pub safe_character : ℕ → List ℕ
safe_character c =
    if is_control c then control_text c
    else if c == 92 then codes "\\\\"
    else encode_utf8 c

abbrev pub safe_text : List ℕ → List ℕ
safe_text text = flat_map safe_character (chars text)

-- a field: an absent text is `-`, and the text `-` is written `\-`
abbrev pub safe_field : Option (List ℕ) → List ℕ
safe_field None = codes "-"
safe_field (Some text) = if bytes_eq text (codes "-") then codes "\\-" else safe_text text
