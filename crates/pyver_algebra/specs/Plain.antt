-- Texts without an epoch and a local part.
use Rattle.std.specs.Prelude.{ℕ, ◌==◌, ◌&&◌, Bool, not, List}
use Rattle.std.specs.Char.{is_ascii_digit}
use Rattle.std.specs.List.{list_all}
use Rattle.pytext.specs.Bytes.{starts}

-- neither `!` nor `+`
abbrev pub is_plain_byte : ℕ → Bool
is_plain_byte b = not (b == 33) && not (b == 43)

-- the text begins with a digit, and has no `!` and no `+`
abbrev pub is_plain : List ℕ → Bool
is_plain text = starts is_ascii_digit text && list_all is_plain_byte text
