-- The lock of the entries that were read from the elements of `packages`.
use Rattle.std.specs.Prelude.{◌==◌, nat_lt, codes, List, Option, Result, Ok, Err}
use Rattle.std.specs.Prelude.{if◌then◌else◌}
use Rattle.toml.specs.Data.{Data, Members, get_member}
use Rattle.pytext.specs.Results.{◌>>=◌}
use Rattle.pylock_readers.specs.Entry.{EntryValue}
use Rattle.pylock_readers.specs.Lock.{LockValue}
use Rattle.pylock_readers.specs.Lock.Head.{created_by_in, head_in, lock_version_in}
use Rattle.pylock_readers.specs.Lock.Packages.{PackagesValue, entries_or}
use Rattle.pylock_readers.specs.Lock.Reading.{entries_in, most_entries}
use Rattle.pylock_readers.specs.declared.error.LockError.{LockError}
use Rattle.pylock_readers.specs.declared.error.LockError.TheVariants.{TooMany}

-- the entries or the first refusal, where they're not too many
abbrev pub entries_read : PackagesValue → Result (List EntryValue) LockError
entries_read packages =
    if nat_lt most_entries packages.count then Err TooMany
    else entries_or packages.entries packages.refusal

-- the same, or where none was read those that the document has in another form
abbrev pub entries_after : PackagesValue → Option Data → Result (List EntryValue) LockError
entries_after packages field =
    if packages.count == 0 then entries_in field else entries_read packages

-- the lock of the head that a document has, with these entries
unfoldable pub lock_with : Members → Result (List EntryValue) LockError → Result LockValue LockError
lock_with document read = do
  _ ← lock_version_in (get_member (codes "lock-version") document)
  _ ← created_by_in (get_member (codes "created-by") document)
  head ←
      head_in
      (get_member (codes "environments") document)
      (get_member (codes "requires-python") document)
      (get_member (codes "extras") document)
      (get_member (codes "dependency-groups") document)
      (get_member (codes "default-groups") document)
  entries ← read
  Ok (record { head = head; entries = entries })

-- the lock of a document from which they were taken
abbrev pub lock_after : Members → PackagesValue → Result LockValue LockError
lock_after document packages =
    lock_with document (entries_after packages (get_member (codes "packages") document))
