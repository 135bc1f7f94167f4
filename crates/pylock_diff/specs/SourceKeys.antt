-- The keys of an entry's sources of which no row of a name tells: `size`, `upload-time` and those
-- that PEP 751 doesn't name; and where a checkout or an archive has a path, its URL, since its
-- place is the path.
use Rattle.std.specs.Prelude.{ℕ, Bool, not, ◌++◌, ◌&&◌, ◌||◌, List, [], ◌∷◌, codes, filter}
use Rattle.std.specs.Prelude.{is_some, Option, Some}
use Rattle.std.specs.List.{list_any}
use Rattle.std.specs.Str.{bytes_eq}
use Rattle.toml.specs.Data.{Data, Items, Members, array, get_member, item, no_items, table}
use Rattle.pylock_diff.specs.Codes.{Rows, member_rows}
use Rattle.pylock_diff.specs.declared.inner.SourceTable.{SourceTable}
use Rattle.pylock_diff.specs.declared.inner.SourceTable.TheVariants as kinds

abbrev pub is_one_of : List (List ℕ) → List ℕ → Bool
is_one_of words key = list_any (bytes_eq key) words

-- the keys of each kind of source of which a row tells
abbrev pub vcs_keys : List (List ℕ)
vcs_keys = codes "type" ∷ codes "path" ∷ codes "commit-id" ∷ codes "subdirectory" ∷ []

abbrev pub directory_keys : List (List ℕ)
directory_keys = codes "path" ∷ codes "editable" ∷ codes "subdirectory" ∷ []

abbrev pub archive_keys : List (List ℕ)
archive_keys = codes "path" ∷ codes "hashes" ∷ codes "subdirectory" ∷ []

abbrev pub file_keys : List (List ℕ)
file_keys = codes "name" ∷ codes "url" ∷ codes "path" ∷ codes "hashes" ∷ []

-- Whether a row tells of a key of a source, which has a path or hasn't. The URL of a checkout and
-- of an archive is told where it is their place.
abbrev pub told_by : SourceTable → (has_path : Bool) → List ℕ → Bool
told_by kinds.Vcs has_path key =
    is_one_of vcs_keys key || (bytes_eq key (codes "url") && not has_path)
told_by kinds.Directory has_path key = is_one_of directory_keys key
told_by kinds.Archive has_path key =
    is_one_of archive_keys key || (bytes_eq key (codes "url") && not has_path)
told_by kinds.File has_path key = is_one_of file_keys key

abbrev pub source_told : SourceTable → Members → List ℕ → Bool
source_told kind source key = told_by kind (is_some (get_member (codes "path") source)) key

-- the others of a source, which is a table
abbrev pub other_rows : SourceTable → Option Data → Rows
other_rows kind (Some (table source)) =
    filter (λ row. not (source_told kind source row.0)) (member_rows source)
other_rows kind field = []

abbrev pub wheel_rows : Items → Rows
wheel_rows no_items = []
wheel_rows (item d ds) = other_rows kinds.File (Some d) ++ wheel_rows ds

abbrev pub wheels_rows : Option Data → Rows
wheels_rows (Some (array items)) = wheel_rows items
wheels_rows field = []

-- those of an entry, in the order of its sources
abbrev pub source_rows : Members → Rows
source_rows entry =
    other_rows kinds.Vcs (get_member (codes "vcs") entry)
    ++ other_rows kinds.Directory (get_member (codes "directory") entry)
    ++ other_rows kinds.Archive (get_member (codes "archive") entry)
    ++ wheels_rows (get_member (codes "wheels") entry)
    ++ other_rows kinds.File (get_member (codes "sdist") entry)
