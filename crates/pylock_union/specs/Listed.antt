-- What is listed: the sources of the entries of several locks, each with its lock and its entry,
-- and with what is known of its file.
use Rattle.std.specs.Prelude.{ℕ, ◌+◌, ◌++◌, List, [], ◌∷◌, map}
use Rattle.std.specs.Prelude.{Option, None, Some, option_and_then, slice_get}
use Rattle.std.specs.Option.{option_copied}
use Rattle.pylock_metadata.specs.Metadata.{EntryValue as EntryMetadata}
use Rattle.pylock_metadata.specs.declared.file.FileMetadata.{FileMetadata}
use Rattle.pylock_readers.specs.Entry.{EntryValue}
use Rattle.pylock_core.specs.Session.Picks.{SourceValue, lent_source, sources}
use Rattle.pylock_core.specs.declared.answer.PickSource.{PickSource}
use Rattle.pylock_core.specs.declared.answer.PickSource.TheVariants as source
use Rattle.pylock_union.specs.declared.listed.LockSource.{LockSource}

-- a source of an entry of a lock: the lock's number and the entry's, and of the file its size in
-- bytes and when it was uploaded (PEP 751, `size` and `upload-time`), where these are known
pub record LockSourceValue : Type 0 where
  pub lock : ℕ
  pub number : ℕ
  pub entry : EntryValue
  pub source : SourceValue
  pub size : Option ℕ
  pub upload_time : Option (List ℕ)

-- one that is lent
abbrev pub lent : LockSource → LockSourceValue
lent one = record {
  lock = one.lock;
  number = one.number;
  entry = one.entry.now;
  source = lent_source one.source;
  size = one.size;
  upload_time = option_copied one.upload_time;
}

abbrev pub all_lent : List LockSource → List LockSourceValue
all_lent list = map lent list

-- ---- the sources of a lock

-- what is known of the entry at this place, counted from 0
abbrev pub entry_metadata : Option (List EntryMetadata) → ℕ → Option EntryMetadata
entry_metadata metadata place = option_and_then (λ entries. slice_get entries place) metadata

-- what is known of the file that a source of the entry is; a checkout and a directory are none
abbrev pub file_metadata : EntryMetadata → PickSource → Option FileMetadata
file_metadata entry source.Archive = Some entry.archive
file_metadata entry (source.Wheel place) = slice_get entry.wheels place
file_metadata entry source.Sdist = Some entry.sdist
file_metadata entry name = None

-- a source with its name, of an entry of this number
abbrev pub lock_source : (lock number : ℕ) → EntryValue → Option EntryMetadata
    → PickSource × SourceValue → LockSourceValue
lock_source lock number entry metadata named =
    let file = option_and_then (λ m. file_metadata m named.0) metadata in
    record {
      lock = lock;
      number = number;
      entry = entry;
      source = named.1;
      size = option_and_then (λ m. m.size) file;
      upload_time = option_and_then (λ m. m.upload_time) file;
    }

-- the sources of entries of a lock, the first of which stands at this place, counted from 0
abbrev pub sources_from : ℕ → Option (List EntryMetadata) → ℕ → List EntryValue
    → List LockSourceValue
sources_from lock metadata place [] = []
sources_from lock metadata place (entry ∷ entries) =
    map (lock_source lock (place + 1) entry (entry_metadata metadata place)) (sources entry)
    ++ sources_from lock metadata (place + 1) entries
