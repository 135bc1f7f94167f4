-- What a lock says of its files besides what installation takes (PEP 751, the keys `size` and
-- `upload-time` of `packages.archive`, `packages.sdist` and `packages.wheels`).
use Rattle.std.specs.Prelude.{ℕ, ℤ, pos, negsuc, Bool, true, false, ◌==◌, ◌&&◌, codes, is_some}
use Rattle.std.specs.Prelude.{List, [], ◌∷◌, Option, Some, None, if◌then◌else◌, option_and_then}
use Rattle.std.specs.Option.{option_map_or}
use Rattle.toml.specs.Data.{Data, Items, Members, datetime, get_member, integer, item, no_items}
use Rattle.toml.specs.Data.{no_members, table}
use Rattle.toml_datetime.specs.Text.{datetime_text}
use Rattle.toml_datetime.specs.declared.datetime.Datetime.{Datetime}
use Rattle.toml_datetime.specs.declared.datetime.Offset.{Offset}
use Rattle.toml_datetime.specs.declared.datetime.Offset.TheVariants.{Z, Custom}
use Rattle.pylock_metadata.specs.Table.{items_at}
use Rattle.pylock_metadata.specs.declared.file.FileMetadata.{FileMetadata}

-- ---- the keys

-- the size of a file in bytes: an integer that isn't negative
abbrev pub natural_of : ℤ → Option ℕ
natural_of (pos n) = Some n
natural_of (negsuc n) = None

abbrev pub size_of : Data → Option ℕ
size_of (integer z) = natural_of z
size_of d = None

-- “a datetime literal in UTC”: a date and a time, with `Z` or an offset of no minutes
abbrev pub is_zero : ℤ → Bool
is_zero (pos n) = n == 0
is_zero (negsuc n) = false

abbrev pub is_utc : Offset → Bool
is_utc Z = true
is_utc (Custom minutes) = is_zero minutes

abbrev pub is_moment : Datetime → Bool
is_moment time = is_some time.date && is_some time.time && option_map_or is_utc time.offset false

-- when a file was uploaded, as TOML writes it
abbrev pub upload_time_of : Data → Option (List ℕ)
upload_time_of (datetime time) = if is_moment time then Some (datetime_text time) else None
upload_time_of d = None

-- ---- a file

abbrev pub nothing_said : FileMetadata
nothing_said = record { size = None; upload_time = None }

-- what the table of a file says
abbrev pub file_in : Members → FileMetadata
file_in file = record {
  size = option_and_then size_of (get_member (codes "size") file);
  upload_time = option_and_then upload_time_of (get_member (codes "upload-time") file);
}

-- a file is a table in a lock
abbrev pub file_of : Data → FileMetadata
file_of (table file) = file_in file
file_of d = nothing_said

-- the file of a key of an entry
abbrev pub file_at : List ℕ → Members → FileMetadata
file_at key entry = option_map_or file_of (get_member key entry) nothing_said

abbrev pub files_of : Items → List FileMetadata
files_of no_items = []
files_of (item d ds) = file_of d ∷ files_of ds

-- ---- the entries

pub record EntryValue : Type 0 where
  pub archive : FileMetadata
  pub sdist : FileMetadata
  pub wheels : List FileMetadata

-- what the table of an entry says of its files
abbrev pub entry_in : Members → EntryValue
entry_in entry = record {
  archive = file_at (codes "archive") entry;
  sdist = file_at (codes "sdist") entry;
  wheels = files_of (items_at (codes "wheels") entry);
}

-- an entry is a table in a lock
abbrev pub entry_of : Data → EntryValue
entry_of (table entry) = entry_in entry
entry_of d = entry_in no_members

abbrev pub entries_of : Items → List EntryValue
entries_of no_items = []
entries_of (item d ds) = entry_of d ∷ entries_of ds

-- what a document says of the files of its entries
abbrev pub metadata_of : Members → List EntryValue
metadata_of document = entries_of (items_at (codes "packages") document)
