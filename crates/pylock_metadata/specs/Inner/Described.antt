-- What the tables of a document's entries say of files, and the lock with that.
use Rattle.std.specs.Prelude.{◌≡◌, ◌≤◌, codes, List, [], ◌∷◌, Result, Ok, if◌then◌else◌, nat_lt}
use Rattle.toml.specs.Data.{Items, Members, no_items}
use Rattle.pytext.specs.Results.{◌>>=◌}
use Rattle.pylock_readers.specs.Lock.{LockValue}
use Rattle.pylock_readers.specs.Lock.Reading.{item_count, lock_in, most_entries}
use Rattle.pylock_readers.specs.declared.error.LockError.{LockError}
use Rattle.pylock_metadata.specs.Metadata.{EntryValue, entries_of}
use Rattle.pylock_metadata.specs.Table.{items_at}

-- the items, where a lock may have so many entries: a document that has more is refused, so none of
-- them is looked at
abbrev pub looked_at : Items → Items
looked_at items = if nat_lt most_entries (item_count items) then no_items else items

-- what the tables of a document's entries say
abbrev pub entries_in : Members → List EntryValue
entries_in document = entries_of (looked_at (items_at (codes "packages") document))

-- a lock with what it says, where it isn't refused
abbrev pub with_metadata : List EntryValue → Result LockValue LockError
    → Result (LockValue × List EntryValue) LockError
with_metadata entries lock = lock >>= (λ lock. Ok (lock, entries))

-- the lock that a document is, with what it says, or its refusal
abbrev pub document_described : Members → Result (LockValue × List EntryValue) LockError
document_described document = with_metadata (entries_in document) (lock_in document)

abbrev pub described_from : Result Members LockError
    → Result (LockValue × List EntryValue) LockError
described_from document = document >>= document_described

-- ---- where the tables of the entries were taken from the document as they came

-- what was described of the tables: what each says, where a lock may have so many
abbrev pub HasDescribed : List EntryValue → Items → Type 0
HasDescribed entries taken = item_count taken ≤ most_entries → entries ≡ entries_of taken

-- what the tables said; where none was taken, they may stand in the document
abbrev pub entries_after : List EntryValue → Members → List EntryValue
entries_after [] document = entries_in document
entries_after (entry ∷ entries) document = entry ∷ entries
