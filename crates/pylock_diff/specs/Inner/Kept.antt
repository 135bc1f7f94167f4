-- What is kept of the tables of entries that were taken from a document as they came, and what of
-- the document stands in memory.
use Rattle.std.specs.Prelude.{◌≡◌, ◌≤◌, codes, nat_lt, true, List, [], ◌∷◌, if◌then◌else◌, ⊤}
use Rattle.toml.specs.Data.{Data, Items, Members, get_member, is_before, item, member, no_items}
use Rattle.toml.specs.Data.{no_members, table}
use Rattle.pylock_readers.specs.Lock.Packages.{HasRead}
use Rattle.pylock_readers.specs.Lock.Reading.{item_count, most_entries}
use Rattle.pytoml_code.specs.Proper.{AreProper, IsProper}
use Rattle.pylock_diff.specs.Compared.{is_head_key, item_codes, items_at}
use Rattle.pylock_diff.specs.declared.compared.EntryCodes.{EntryCodes}
use Rattle.pylock_diff.specs.declared.compared.Kept.{Kept}

-- ---- the tables that came

-- the codes of these elements, where a lock may have so many
pub record HasCodes (entries : List EntryCodes) (taken : Items) : Type 0 where
  pub codes : item_count taken ≤ most_entries → entries ≡ item_codes taken
  pub proper : item_count taken ≤ most_entries → AreProper taken

-- what was read and kept of these elements
pub record HasKept (keeper : Kept) (taken : Items) : Type 0 where
  pub read : HasRead keeper.packages taken
  pub kept : HasCodes keeper.entries.items taken

-- ---- the document

-- the codes of items, where a lock may have so many
abbrev pub kept_of : Items → List EntryCodes
kept_of items = if nat_lt most_entries (item_count items) then [] else item_codes items

-- the codes of the tables that came; where none did, those of the tables in the document
abbrev pub entries_after : List EntryCodes → Members → List EntryCodes
entries_after [] document = kept_of (items_at (get_member (codes "packages") document))
entries_after (entry ∷ entries) document = entry ∷ entries

abbrev pub IsTable : Data → Type 0
IsTable (table ms) = ⊤
IsTable d = ⊥

abbrev pub AreTables : Items → Type 0
AreTables no_items = ⊤
AreTables (item d ds) = IsTable d × AreTables ds

-- they stand in memory, where they are the entries of a lock
abbrev pub AreProperTables : Items → Type 0
AreProperTables items = item_count items ≤ most_entries → AreTables items → AreProper items

-- those in the document stand in memory, where none came
abbrev pub HasProperTables : List EntryCodes → Members → Type 0
HasProperTables [] document = AreProperTables (items_at (get_member (codes "packages") document))
HasProperTables (entry ∷ entries) document = ⊤

-- the keys stand in order, and those of the head in memory
abbrev pub HasProperHead : Members → Type 0
HasProperHead no_members = ⊤
HasProperHead (member key d ds) =
    (is_before key ds ≡ true) × (is_head_key key ≡ true → IsProper d) × HasProperHead ds
