-- JSON that is safe to show at a terminal: no control character stands in it as itself.
use Rattle.std.specs.Prelude.{ℕ, ◌<◌, ◌^◌, List, [], ◌∷◌, IsUtf8, ⊤, if◌then◌else◌}
use Rattle.std.specs.Char.{encode_utf8}
use Rattle.std.specs.Char.Escape.{encode_utf16, hex_digit_at}
use Rattle.std.specs.List.{flat_map}
use Rattle.std.specs.Str.{chars}
use Rattle.serde_json.specs.Data.{Data, array, boolean, null, number, object, string, unsigned}
use Rattle.serde_json.specs.Data.{Items, Members, item, member, no_items, no_members}
use Rattle.pylock_shown.specs.Visible.{is_control}

-- a code unit of UTF-16: `\u` and its four hex digits, in lower case (RFC 8259, section 7)
abbrev pub escaped_unit : ℕ → List ℕ
escaped_unit unit =
    92 ∷ 117 ∷ hex_digit_at 4096 unit ∷ hex_digit_at 256 unit
    ∷ hex_digit_at 16 unit ∷ hex_digit_at 1 unit ∷ []

-- a control character stands as its code units: one, or past U+FFFF two
abbrev pub safe_character : ℕ → List ℕ
safe_character c =
    if is_control c then flat_map escaped_unit (encode_utf16 c) else encode_utf8 c

-- JSON without white space, in which each control character stands so. It has them within strings
-- alone, where that is another spelling of the same text.
abbrev pub safe_json : List ℕ → List ℕ
safe_json text = flat_map safe_character (chars text)

-- what such JSON is written of: texts in UTF-8, and natural numbers of 64 bits
abbrev mutual
  pub IsWritten : Data → Type 0
  IsWritten null = ⊤
  IsWritten (boolean b) = ⊤
  IsWritten (number (unsigned n)) = n < 2 ^ 64
  IsWritten (number other) = ⊥
  IsWritten (string s) = IsUtf8 s
  IsWritten (array ds) = ItemsWritten ds
  IsWritten (object ms) = MembersWritten ms

  pub ItemsWritten : Items → Type 0
  ItemsWritten no_items = ⊤
  ItemsWritten (item d ds) = IsWritten d × ItemsWritten ds

  pub MembersWritten : Members → Type 0
  MembersWritten no_members = ⊤
  MembersWritten (member key d ms) = IsUtf8 key × IsWritten d × MembersWritten ms
