-- The sources of an entry (PEP 751, `packages.vcs` to `packages.wheels`).
use Rattle.std.specs.Prelude.{ℕ, ◌||◌, codes, List, [], ◌∷◌, Option, is_some, unwrap_or, Result, Ok}
use Rattle.toml.specs.Data.{Data, Members, no_members, member, get_member}
use Rattle.pytext.specs.Results.{◌>>=◌}
use Rattle.pylock_readers.specs.Entry.{LocationValue, VcsValue, DirectoryValue, ArchiveValue}
use Rattle.pylock_readers.specs.Entry.{FileValue}
use Rattle.pylock_readers.specs.Entry.Fields.{flag_in, members_of, optional_field}
use Rattle.pylock_readers.specs.Entry.Fields.{optional_text_in, require, text_in, text_of}
use Rattle.pylock_readers.specs.declared.field.FieldError.{FieldError}

-- the keys `url` and `path`, at least one of them
unfoldable pub location_in : Option Data → Option Data → Result LocationValue FieldError
location_in url path = do
  url ← optional_text_in url
  path ← optional_text_in path
  _ ← require (is_some url || is_some path)
  Ok (record { url = url; path = path })

-- the pairs of a table of texts, which has its members in byte order of their keys
abbrev pub pairs_of : Members → Result (List (List ℕ × List ℕ)) FieldError
pairs_of no_members = Ok []
pairs_of (member algorithm d rest) =
    text_of d >>= (λ value. pairs_of rest >>= (λ pairs. Ok ((algorithm, value) ∷ pairs)))

-- the key `hashes`, a table of texts, which is empty where it is absent
abbrev pub hashes_in : Option Data → Result (List (List ℕ × List ℕ)) FieldError
hashes_in field =
    optional_field members_of field >>= (λ members. pairs_of (unwrap_or members no_members))

unfoldable pub vcs_of : Data → Result VcsValue FieldError
vcs_of d = do
  vcs ← members_of d
  kind ← text_in (get_member (codes "type") vcs)
  commit_id ← text_in (get_member (codes "commit-id") vcs)
  location ← location_in (get_member (codes "url") vcs) (get_member (codes "path") vcs)
  subdirectory ← optional_text_in (get_member (codes "subdirectory") vcs)
  Ok (record {
    kind = kind;
    commit_id = commit_id;
    location = location;
    subdirectory = subdirectory;
  })

unfoldable pub directory_of : Data → Result DirectoryValue FieldError
directory_of d = do
  directory ← members_of d
  path ← text_in (get_member (codes "path") directory)
  editable ← flag_in (get_member (codes "editable") directory)
  subdirectory ← optional_text_in (get_member (codes "subdirectory") directory)
  Ok (record { path = path; editable = editable; subdirectory = subdirectory })

unfoldable pub archive_of : Data → Result ArchiveValue FieldError
archive_of d = do
  archive ← members_of d
  location ← location_in (get_member (codes "url") archive) (get_member (codes "path") archive)
  hashes ← hashes_in (get_member (codes "hashes") archive)
  subdirectory ← optional_text_in (get_member (codes "subdirectory") archive)
  Ok (record { location = location; hashes = hashes; subdirectory = subdirectory })

-- an sdist or a wheel
unfoldable pub file_of : Data → Result FileValue FieldError
file_of d = do
  file ← members_of d
  name ← optional_text_in (get_member (codes "name") file)
  location ← location_in (get_member (codes "url") file) (get_member (codes "path") file)
  hashes ← hashes_in (get_member (codes "hashes") file)
  Ok (record { name = name; location = location; hashes = hashes })
