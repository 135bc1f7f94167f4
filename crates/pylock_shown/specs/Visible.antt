-- Texts that are safe to show at a terminal.
use Rattle.std.specs.Prelude.{ℕ, ◌++◌, Bool, true, false, List, if◌then◌else◌, codes}
use Rattle.std.specs.Char.{encode_utf8}
use Rattle.std.specs.Fmt.{digits}
use Rattle.std.specs.List.{flat_map, list_any}
use Rattle.std.specs.Str.{chars}
use Rattle.ucd_category.specs.GeneralCategory.{general_category}
use Rattle.ucd_category.specs.declared.GeneralCategory.{GeneralCategory}
use Rattle.ucd_category.specs.declared.GeneralCategory.TheVariants.{Control, Format}
use Rattle.ucd_category.specs.declared.GeneralCategory.TheVariants.{LineSeparator}
use Rattle.ucd_category.specs.declared.GeneralCategory.TheVariants.{ParagraphSeparator}

-- the classes Cc, Cf, Zl and Zp of Unicode: what steers a terminal, what isn't seen and changes
-- what is seen, as the direction of a text, and what ends a line
abbrev pub steers : GeneralCategory → Bool
steers Control = true
steers Format = true
steers LineSeparator = true
steers ParagraphSeparator = true
steers _ = false

abbrev pub is_control : ℕ → Bool
is_control c = steers (general_category c)

abbrev pub has_control : List ℕ → Bool
has_control text = list_any is_control (chars text)

-- a character as its number, in hex digits without leading zeros
abbrev pub control_text : ℕ → List ℕ
control_text c = codes "\\u{" ++ digits 16 false c ++ codes "}"

abbrev pub visible_character : ℕ → List ℕ
visible_character c = if is_control c then control_text c else encode_utf8 c

-- a text, in which each control character stands as its number
abbrev pub visible : List ℕ → List ℕ
visible text = flat_map visible_character (chars text)
