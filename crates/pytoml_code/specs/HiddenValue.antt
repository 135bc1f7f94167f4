-- A TOML value in which each text, keys too, stands as a person is shown it.
use Rattle.std.specs.Prelude.{⊤}
use Rattle.std.specs.Str.{IsUtf8}
use Rattle.toml.specs.Data.{Data, string, integer, float, boolean, datetime, array, table}
use Rattle.toml.specs.Data.{Items, no_items, item, Members, no_members, member}
use Rattle.pylock_shown.specs.Hidden.{hidden}

abbrev mutual
  pub hidden_value : Data → Data
  hidden_value (string text) = string (hidden text)
  hidden_value (integer z) = integer z
  hidden_value (float x) = float x
  hidden_value (boolean b) = boolean b
  hidden_value (datetime moment) = datetime moment
  hidden_value (array items) = array (hidden_items items)
  hidden_value (table members) = table (hidden_members members)

  pub hidden_items : Items → Items
  hidden_items no_items = no_items
  hidden_items (item d ds) = item (hidden_value d) (hidden_items ds)

  -- keys in their order, which may not ascend any more
  pub hidden_members : Members → Members
  hidden_members no_members = no_members
  hidden_members (member key d ds) = member (hidden key) (hidden_value d) (hidden_members ds)

abbrev mutual
  -- each text and each key is UTF-8, as of a value in memory
  pub HasTexts : Data → Type 0
  HasTexts (string text) = IsUtf8 text
  HasTexts (integer z) = ⊤
  HasTexts (float x) = ⊤
  HasTexts (boolean b) = ⊤
  HasTexts (datetime moment) = ⊤
  HasTexts (array items) = HaveTexts items
  HasTexts (table members) = MembersHaveTexts members

  pub HaveTexts : Items → Type 0
  HaveTexts no_items = ⊤
  HaveTexts (item d ds) = HasTexts d × HaveTexts ds

  pub MembersHaveTexts : Members → Type 0
  MembersHaveTexts no_members = ⊤
  MembersHaveTexts (member key d ds) = IsUtf8 key × HasTexts d × MembersHaveTexts ds
