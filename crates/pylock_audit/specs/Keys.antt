-- The keys of a lock that PEP 751 names, and those that it doesn't.
use Rattle.std.specs.Prelude.{ℕ, Bool, ◌+◌, ◌++◌, not, codes, decimal, filter}
use Rattle.std.specs.Prelude.{List, [], ◌∷◌, map, Option, Some, option_and_then}
use Rattle.std.specs.List.{list_any}
use Rattle.std.specs.Str.{bytes_eq}
use Rattle.toml.specs.Data.{Data, Items, Members, array, as_str, get_member, member, no_items}
use Rattle.toml.specs.Data.{no_members}
use Rattle.pylock_core.specs.declared.answer.PickSource.{PickSource}
use Rattle.pylock_core.specs.declared.answer.PickSource.TheVariants as source
use Rattle.pylock_shown.specs.Hidden.{hidden}
use Rattle.pylock_audit.specs.declared.keys.LockTable.{LockTable}
use Rattle.pylock_audit.specs.declared.keys.LockTable.TheVariants as tables

-- ---- what a key has

-- a text, where it has one
abbrev pub text_at : List ℕ → Members → Option (List ℕ)
text_at key members = option_and_then as_str (get_member key members)

-- a list, or none
abbrev pub items_in : Option Data → Items
items_in (Some (array items)) = items
items_in field = no_items

abbrev pub items_at : List ℕ → Members → Items
items_at key members = items_in (get_member key members)

-- ---- the keys that are named

-- the keys that an sdist or a wheel may have
abbrev pub file_keys : List (List ℕ)
file_keys =
    codes "name" ∷ codes "upload-time" ∷ codes "url" ∷ codes "path" ∷ codes "size"
    ∷ codes "hashes" ∷ []

-- the keys that a source may have
abbrev pub source_keys : PickSource → List (List ℕ)
source_keys source.Vcs =
    codes "type" ∷ codes "url" ∷ codes "path" ∷ codes "requested-revision" ∷ codes "commit-id"
    ∷ codes "subdirectory" ∷ []
source_keys source.Directory = codes "path" ∷ codes "editable" ∷ codes "subdirectory" ∷ []
source_keys source.Archive =
    codes "url" ∷ codes "path" ∷ codes "size" ∷ codes "upload-time" ∷ codes "hashes"
    ∷ codes "subdirectory" ∷ []
source_keys (source.Wheel place) = file_keys
source_keys source.Sdist = file_keys

-- the keys that a table may have
abbrev pub named_keys : LockTable → List (List ℕ)
named_keys tables.Head =
    codes "lock-version" ∷ codes "environments" ∷ codes "requires-python" ∷ codes "extras"
    ∷ codes "dependency-groups" ∷ codes "default-groups" ∷ codes "created-by" ∷ codes "packages"
    ∷ codes "tool" ∷ []
named_keys tables.Entry =
    codes "name" ∷ codes "version" ∷ codes "marker" ∷ codes "requires-python"
    ∷ codes "dependencies" ∷ codes "index" ∷ codes "vcs" ∷ codes "directory" ∷ codes "archive"
    ∷ codes "sdist" ∷ codes "wheels" ∷ codes "attestation-identities" ∷ codes "tool" ∷ []
named_keys (tables.OfSource name) = source_keys name

abbrev pub is_named : LockTable → List ℕ → Bool
is_named lock_table key = list_any (bytes_eq key) (named_keys lock_table)

-- the path of a key of the source
abbrev pub source_path : PickSource → List ℕ
source_path source.Vcs = codes "vcs "
source_path source.Directory = codes "directory "
source_path source.Archive = codes "archive "
source_path (source.Wheel place) = codes "wheels " ++ decimal (place + 1) ++ codes " "
source_path source.Sdist = codes "sdist "

-- the same of a table
abbrev pub table_path : LockTable → List ℕ
table_path (tables.OfSource name) = source_path name
table_path lock_table = []

-- the keys of a table, in order of code point
abbrev pub table_keys : Members → List (List ℕ)
table_keys no_members = []
table_keys (member key d rest) = key ∷ table_keys rest

-- those of them that aren't named, each by its path as it is shown
abbrev pub unknown_keys : LockTable → Members → List (List ℕ)
unknown_keys lock_table members =
    map (λ key. table_path lock_table ++ hidden key)
    (filter (λ key. not (is_named lock_table key)) (table_keys members))
