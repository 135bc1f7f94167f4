-- The compressed tag sets of a session's wheels, by their numbers.
use Rattle.std.specs.Prelude.{◌≡◌, ℕ, ◌<◌, List, length, Option, Some, None, slice_index_or, []}
use Rattle.std.specs.BTreeMap.{btree_map_len, get_by_text}
use Rattle.pywheel_core.specs.Wheel.Value.{WheelValue}
use Rattle.pylock_readers.specs.Entry.{EntryValue, wheel_names}
use Rattle.pylock_core.specs.Inner.Tables.Index.{list_at}
use Rattle.pylock_core.specs.Inner.Tables.Names.{IsNumbering}
use Rattle.pylock_core.specs.declared.session.tables.tag_sets.TagSets.{TagSets}

-- ---- the sets of wheels

-- the compressed tag set that a file name says; empty, which is no tag set, where it says nothing
abbrev pub set_text : Option WheelValue → List ℕ
set_text None = []
set_text (Some wheel) = wheel.tag_set

-- the number of a tag set
abbrev pub set_number : TagSets → List ℕ → Option ℕ
set_number sets = get_by_text sets.numbers

-- each set has a number of its own
abbrev pub IsNumbered : TagSets → Type 0
IsNumbered sets = IsNumbering (set_number sets) (btree_map_len sets.numbers)

-- tag sets where each that had a number keeps it
pub record SetsKept (old new : TagSets) : Type 0 where
  pub numbers : (set : List ℕ) (n : ℕ) → set_number old set ≡ Some n → set_number new set ≡ Some n
  pub is : IsNumbered new

-- the numbers of the sets of these wheels, in their order
pub record AreNumbers (number : List ℕ → Option ℕ) (wheels : List (Option WheelValue))
    (numbers : List ℕ) : Type 0 where
  pub long : length numbers ≡ length wheels
  pub each : (k : ℕ) → k < length wheels
      → number (set_text (slice_index_or wheels k None)) ≡ Some (slice_index_or numbers k 0)

-- what the file names of an entry's wheels say, where one stands
abbrev pub names_in : Option EntryValue → List (Option WheelValue)
names_in None = []
names_in (Some entry) = wheel_names entry

-- under the place of each entry stand the numbers of its wheels' sets
pub record AreSets (sets : TagSets) (entries : List (Option EntryValue)) : Type 0 where
  pub is : IsNumbered sets
  pub long : length sets.of_entries.items ≡ length entries
  pub each : (k : ℕ)
      → AreNumbers (set_number sets) (names_in (slice_index_or entries k None))
      (list_at sets.of_entries.items k)
