-- What a terminal is given of a text, so that the text can't steer it.
use Rattle.std.specs.Prelude.{ℕ, ◌==◌, ◌||◌, ◌&&◌, not, Bool, List, if◌then◌else◌}
use Rattle.std.specs.Char.{encode_utf8}
use Rattle.std.specs.List.{flat_map}
use Rattle.std.specs.Str.{chars}
use Rattle.pylock_shown.specs.Visible.{is_control, control_text}

-- a control character (Unicode's classes Cc, Cf, Zl and Zp) but TAB and LF, which lay out lines
abbrev pub steers_terminal : ℕ → Bool
steers_terminal c = is_control c && not (c == 9 || c == 10)

abbrev pub terminal_character : ℕ → List ℕ
terminal_character c = if steers_terminal c then control_text c else encode_utf8 c

-- a text, in which each such character stands as its number
abbrev pub terminal_text : List ℕ → List ℕ
terminal_text text = flat_map terminal_character (chars text)
