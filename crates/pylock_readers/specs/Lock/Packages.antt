-- The entries of a lock, read from the elements of `packages` one after the other (PEP 751,
-- `packages`).
use Rattle.std.specs.Prelude.{◌≡◌, ℕ, ◌+◌, ◌≤◌, ◌<◌, List, length, Option, Some, None}
use Rattle.std.specs.Prelude.{Result, Ok, Err}
use Rattle.toml.specs.Data.{Items, Members}
use Rattle.pytoml.specs.Elements.{LacksElements}
use Rattle.pytoml.specs.Members.{with_elements}
use Rattle.pylock_readers.specs.Entry.{EntryValue}
use Rattle.pylock_readers.specs.Lock.Reading.{entries_of, item_count, most_entries}
use Rattle.pylock_readers.specs.declared.error.EntryError.{EntryError}
use Rattle.pylock_readers.specs.declared.error.LockError.{LockError}
use Rattle.pylock_readers.specs.declared.error.LockError.TheVariants.{Entry}

-- how many elements came, up to one more than a lock may have; the entries that they are, to the
-- first that is refused; and why that is
pub record PackagesValue : Type 0 where
  pub count : ℕ
  pub entries : List EntryValue
  pub refusal : Option EntryError

-- the entries, or the refusal of the element behind theirs
abbrev pub entries_or : List EntryValue → Option EntryError → Result (List EntryValue) LockError
entries_or entries None = Ok entries
entries_or entries (Some refusal) = Err (Entry (length entries + 1) refusal)

-- what was read of these elements: how many they are, and where they're not too many their entries,
-- or the first refusal
pub record HasRead (packages : PackagesValue) (taken : Items) : Type 0 where
  pub many : item_count taken ≤ most_entries → packages.count ≡ item_count taken
  pub too_many : most_entries < item_count taken → most_entries < packages.count
  pub within : packages.count ≤ most_entries + 1
  pub read : item_count taken ≤ most_entries
      → entries_of 1 taken ≡ entries_or packages.entries packages.refusal

-- what was read of a document: all of it, or all but the elements at a key, which somebody took and
-- the rest lacks
abbrev pub IsDocument : {E : Type 0} → (E → Items → Type 0) → List ℕ → Members × Option E
    → Result Members LockError → Type 0
IsDocument holds key (rest, None) document = document ≡ Ok rest
IsDocument holds key (rest, Some taker) document =
    (taken : Items) × holds taker taken × (document ≡ Ok (with_elements key taken rest))
    × LacksElements key taken rest
