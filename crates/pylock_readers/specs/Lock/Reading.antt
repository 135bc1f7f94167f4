-- The reading of a lock of version 1 (PEP 751) from the bytes of its text. Each step gives a value
-- or a refusal; the first refusal, in the order of the steps, is the lock's.
use Rattle.std.specs.Prelude.{ℕ, codes, nat_lt, List, [], ◌∷◌, suc, Option, ok_or, Result, Ok, Err}
use Rattle.std.specs.Prelude.{if◌then◌else◌, ⊤}
use Rattle.toml.specs.Data.{Data, Items, no_items, item, Members, get_member}
use Rattle.toml.specs.Parse.{parse_document}
use Rattle.pytext.specs.Results.{◌>>=◌}
use Rattle.pylock_readers.specs.Entry.{EntryValue}
use Rattle.pylock_readers.specs.Entry.Fields.{items_in, or_refused}
use Rattle.pylock_readers.specs.Entry.Reading.{entry_in}
use Rattle.pylock_readers.specs.Lock.{LockValue}
use Rattle.pylock_readers.specs.Lock.Head.{lock_version_in, created_by_in, head_in}
use Rattle.pylock_readers.specs.Text.{utf8_text}
use Rattle.pylock_readers.specs.declared.error.EntryError.{EntryError}
use Rattle.pylock_readers.specs.declared.error.LockError.{LockError}
use Rattle.pylock_readers.specs.declared.error.LockError.TheVariants.{NotText, Toml, Packages}
use Rattle.pylock_readers.specs.declared.error.LockError.TheVariants.{TooMany, Entry}

-- ---- the list of entries (PEP 751, `packages`)

-- how many entries a lock may have
abbrev pub most_entries : ℕ
most_entries = 100000

-- an entry's refusal is that of the lock at the entry's place
abbrev pub at_position : {V : Type 0} → ℕ → Result V EntryError → Result V LockError
at_position place (Ok x) = Ok x
at_position place (Err e) = Err (Entry place e)

-- the entries, the first of them at this place
abbrev pub entries_of : ℕ → Items → Result (List EntryValue) LockError
entries_of place no_items = Ok []
entries_of place (item d ds) =
    at_position place (entry_in d) >>= (λ e. entries_of (suc place) ds >>= (λ es. Ok (e ∷ es)))

-- how many items there are
abbrev pub item_count : Items → ℕ
item_count no_items = 0
item_count (item d ds) = suc (item_count ds)

abbrev pub packages_in : Option Data → Result Items LockError
packages_in field = or_refused Packages (items_in field)

abbrev pub capacity_for : Items → Result ⊤ LockError
capacity_for items = if nat_lt most_entries (item_count items) then Err TooMany else Ok tt

unfoldable pub entries_in : Option Data → Result (List EntryValue) LockError
entries_in field = do
  items ← packages_in field
  _ ← capacity_for items
  entries_of 1 items

-- ---- the lock

unfoldable pub lock_in : Members → Result LockValue LockError
lock_in lock = do
  _ ← lock_version_in (get_member (codes "lock-version") lock)
  _ ← created_by_in (get_member (codes "created-by") lock)
  head ←
      head_in
      (get_member (codes "environments") lock)
      (get_member (codes "requires-python") lock)
      (get_member (codes "extras") lock)
      (get_member (codes "dependency-groups") lock)
      (get_member (codes "default-groups") lock)
  entries ← entries_in (get_member (codes "packages") lock)
  Ok (record { head = head; entries = entries })

-- the text as a TOML document
abbrev pub document_of : List ℕ → Result Members LockError
document_of text = ok_or (parse_document text) Toml

-- the document that the bytes are
abbrev pub document_in : List ℕ → Result Members LockError
document_in bytes = ok_or (utf8_text bytes) NotText >>= document_of

-- the lock that the bytes are
unfoldable pub lock_of : List ℕ → Result LockValue LockError
lock_of bytes = document_in bytes >>= lock_in
