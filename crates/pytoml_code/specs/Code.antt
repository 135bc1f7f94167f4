-- The code of a TOML value: the value as inline TOML, with marks in it, bytes below 32, by which
-- one value can't be taken for another. No text of a value has such a byte, since control
-- characters are escaped; `Shown.antt` leaves the marks out.
use Rattle.std.specs.Prelude.{ℕ, Bool, true, false, ◌++◌, codes, List, [], ◌∷◌, if◌then◌else◌}
use Rattle.std.specs.Fmt.{signed_decimal}
use Rattle.toml.specs.Data.{Data, string, integer, float, boolean, datetime, array, table}
use Rattle.toml.specs.Data.{Items, no_items, item, Members, no_members, member}
use Rattle.pytoml_code.specs.Scalar.{datetime_code, float_word}
use Rattle.pytoml_code.specs.Text.{ended, key_code, quoted}

-- what stands before an element of an array, and before a member of a table
abbrev pub before_item : Bool → List ℕ
before_item is_first = if is_first then [] else codes ", "

abbrev pub before_member : Bool → List ℕ
before_member is_first = if is_first then codes " " else codes ", "

-- how a table ends
abbrev pub table_end : Bool → List ℕ
table_end is_first = if is_first then codes "}" else codes " }"

abbrev mutual
  pub code : Data → List ℕ
  code (string text) = quoted text
  code (integer z) = 2 ∷ ended (signed_decimal z)
  code (float x) = 3 ∷ ended (float_word x)
  code (boolean b) = if b then 4 ∷ codes "true" else 5 ∷ codes "false"
  code (datetime moment) = 6 ∷ datetime_code moment
  code (array items) = codes "[" ++ items_code true items
  code (table members) = codes "{" ++ members_code true members

  -- the elements of an array, each behind the mark 2, and its end behind the mark 1
  pub items_code : Bool → Items → List ℕ
  items_code is_first no_items = 1 ∷ codes "]"
  items_code is_first (item d ds) = 2 ∷ before_item is_first ++ code d ++ items_code false ds

  -- the same of the members of a table
  pub members_code : Bool → Members → List ℕ
  members_code is_first no_members = 1 ∷ table_end is_first
  members_code is_first (member key d ds) =
      2 ∷ before_member is_first ++ key_code key ++ codes " = " ++ code d
      ++ members_code false ds
