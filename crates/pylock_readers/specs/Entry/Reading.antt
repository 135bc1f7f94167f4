-- The reading of an entry (PEP 751, `packages`): its keys in order; the first that isn't of its
-- form is the entry's refusal.
use Rattle.std.specs.Prelude.{ℕ, codes, List, Option, ok_or, Result, Ok}
use Rattle.toml.specs.Data.{Data, Members, get_member, as_table}
use Rattle.toml.specs.Parse.{parse_value}
use Rattle.pytext.specs.Results.{◌>>=◌}
use Rattle.pyver_core.specs.declared.set.specifier.Specifier.{Specifier}
use Rattle.pymark_core.specs.Marker.Reading.{MarkerValue}
use Rattle.pylock_readers.specs.Entry.{VcsValue, DirectoryValue, ArchiveValue, FileValue}
use Rattle.pylock_readers.specs.Entry.{EntryValue}
use Rattle.pylock_readers.specs.Entry.Fields.{list_in, marker_field, name_of, optional_field}
use Rattle.pylock_readers.specs.Entry.Fields.{optional_text_in, or_refused, set_field}
use Rattle.pylock_readers.specs.Entry.Sources.{vcs_of, directory_of, archive_of, file_of}
use Rattle.pylock_readers.specs.declared.field.FieldError.{FieldError}
use Rattle.pylock_readers.specs.declared.field.FieldError.TheVariants.{Wrong}
use Rattle.pylock_readers.specs.declared.error.EntryError.{EntryError}
use Rattle.pylock_readers.specs.declared.error.EntryError.TheVariants as error
use Rattle.pylock_readers.specs.declared.error.EntryKey.{EntryKey}
use Rattle.pylock_readers.specs.declared.error.EntryKey.TheVariants as key

-- ---- the sources

pub record SourcesValue : Type 0 where
  pub vcs : Option VcsValue
  pub directory : Option DirectoryValue
  pub archive : Option ArchiveValue
  pub sdist : Option FileValue
  pub wheels : List FileValue

-- a key for a source of this form
abbrev pub source_in : {V : Type 0} → EntryKey → (Data → Result V FieldError) → Option Data
    → Result (Option V) EntryError
source_in key form field = or_refused (error.Key key) (optional_field form field)

unfoldable pub sources_in : (vcs directory archive sdist wheels : Option Data)
    → Result SourcesValue EntryError
sources_in vcs directory archive sdist wheels = do
  vcs ← source_in key.Vcs vcs_of vcs
  directory ← source_in key.Directory directory_of directory
  archive ← source_in key.Archive archive_of archive
  sdist ← source_in key.Sdist file_of sdist
  wheels ← or_refused (error.Key key.Wheels) (list_in file_of wheels)
  Ok (record {
    vcs = vcs;
    directory = directory;
    archive = archive;
    sdist = sdist;
    wheels = wheels;
  })

-- ---- the whole entry

abbrev pub table_in : Data → Result Members EntryError
table_in d = ok_or (as_table d) error.NotTable

abbrev pub name_in : Option Data → Result (List ℕ) EntryError
name_in field = or_refused error.Name (ok_or field Wrong >>= name_of)

abbrev pub version_in : Option Data → Result (Option (List ℕ)) EntryError
version_in field = or_refused (error.Key key.Version) (optional_text_in field)

abbrev pub marker_in : Option Data → Result (Option MarkerValue) EntryError
marker_in field = or_refused error.Marker (optional_field marker_field field)

abbrev pub requires_python_in : Option Data → Result (Option (List Specifier)) EntryError
requires_python_in field = or_refused error.RequiresPython (optional_field set_field field)

-- the entry that a member of `packages` is
unfoldable pub entry_in : Data → Result EntryValue EntryError
entry_in d = do
  members ← table_in d
  name ← name_in (get_member (codes "name") members)
  version ← version_in (get_member (codes "version") members)
  sources ←
      sources_in
      (get_member (codes "vcs") members)
      (get_member (codes "directory") members)
      (get_member (codes "archive") members)
      (get_member (codes "sdist") members)
      (get_member (codes "wheels") members)
  marker ← marker_in (get_member (codes "marker") members)
  requires_python ← requires_python_in (get_member (codes "requires-python") members)
  Ok (record {
    name = name;
    version = version;
    vcs = sources.vcs;
    directory = sources.directory;
    archive = sources.archive;
    sdist = sources.sdist;
    wheels = sources.wheels;
    marker = marker;
    requires_python = requires_python;
  })

-- the text as a TOML value
abbrev pub toml_value : List ℕ → Result Data EntryError
toml_value text = ok_or (parse_value text) error.Toml

-- the entry that a text is, which is one TOML value
unfoldable pub entry_of : List ℕ → Result EntryValue EntryError
entry_of text = toml_value text >>= entry_in
