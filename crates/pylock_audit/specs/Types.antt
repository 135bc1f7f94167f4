-- The keys to which PEP 751 gives a type, and whose values the installation steps ignore.
use Rattle.std.specs.Prelude.{ℕ, ℤ, pos, negsuc, Bool, true, false, ◌==◌, ◌&&◌, ◌||◌, ◌++◌, not}
use Rattle.std.specs.Prelude.{codes, List, [], ◌∷◌, is_some}
use Rattle.std.specs.List.{flat_map}
use Rattle.std.specs.Option.{option_map_or}
use Rattle.toml.specs.Data.{Data, Items, Members, array, as_str, datetime, get_member}
use Rattle.toml.specs.Data.{integer, item, no_items, table}
use Rattle.toml_datetime.specs.declared.datetime.Datetime.{Datetime}
use Rattle.toml_datetime.specs.declared.datetime.Offset.{Offset}
use Rattle.toml_datetime.specs.declared.datetime.Offset.TheVariants.{Z, Custom}
use Rattle.pylock_core.specs.declared.answer.PickSource.TheVariants as source
use Rattle.pylock_audit.specs.Finding.{told_where}
use Rattle.pylock_audit.specs.Keys.{table_path, text_at}
use Rattle.pylock_audit.specs.declared.keys.LockTable.{LockTable}
use Rattle.pylock_audit.specs.declared.keys.LockTable.TheVariants as tables
use Rattle.pylock_audit.specs.declared.types.KeyType.{KeyType}
use Rattle.pylock_audit.specs.declared.types.KeyType.TheVariants as type

-- ---- the types

-- a text: `packages.index`, `packages.vcs.requested-revision`
abbrev pub is_text : Data → Bool
is_text d = is_some (as_str d)

-- a table: `tool`, `packages.tool`, each of `packages.dependencies`; with a text `kind`: each of
-- `packages.attestation-identities`
abbrev pub is_table : Bool → Data → Bool
is_table with_kind (table members) = not with_kind || is_some (text_at (codes "kind") members)
is_table with_kind d = false

-- the size of a file in bytes, an integer that isn't negative: `packages.*.size`
abbrev pub is_natural : ℤ → Bool
is_natural (pos n) = true
is_natural (negsuc n) = false

abbrev pub is_size : Data → Bool
is_size (integer n) = is_natural n
is_size d = false

-- “a datetime literal in UTC”: a date and a time, with `Z` or an offset of no minutes:
-- `packages.*.upload-time`
abbrev pub is_zero : ℤ → Bool
is_zero (pos n) = n == 0
is_zero (negsuc n) = false

abbrev pub is_utc : Offset → Bool
is_utc Z = true
is_utc (Custom minutes) = is_zero minutes

abbrev pub is_moment : Datetime → Bool
is_moment time = is_some time.date && is_some time.time && option_map_or is_utc time.offset false

abbrev pub is_upload_time : Data → Bool
is_upload_time (datetime time) = is_moment time
is_upload_time d = false

-- a list of such tables
abbrev pub are_tables : Bool → Items → Bool
are_tables with_kind no_items = true
are_tables with_kind (item d ds) = is_table with_kind d && are_tables with_kind ds

abbrev pub is_tables : Bool → Data → Bool
is_tables with_kind (array items) = are_tables with_kind items
is_tables with_kind d = false

-- ---- the keys

abbrev pub has_type : KeyType → Data → Bool
has_type type.Text d = is_text d
has_type type.Table d = is_table false d
has_type type.Tables d = is_tables false d
has_type type.Identities d = is_tables true d
has_type type.Size d = is_size d
has_type type.UploadTime d = is_upload_time d

-- the path of a key that is there with another type
abbrev pub wrong_at : LockTable → Members → List ℕ → KeyType → List (List ℕ)
wrong_at lock_table fields key wanted =
    option_map_or (λ d. told_where (not (has_type wanted d)) (table_path lock_table ++ key))
    (get_member key fields) []

-- the keys of a table to which a type is given, in order of code point
abbrev pub typed_keys : LockTable → List (List ℕ × KeyType)
typed_keys tables.Head = (codes "tool", type.Table) ∷ []
typed_keys tables.Entry =
    (codes "attestation-identities", type.Identities)
    ∷ (codes "dependencies", type.Tables)
    ∷ (codes "index", type.Text)
    ∷ (codes "tool", type.Table)
    ∷ []
typed_keys (tables.OfSource source.Vcs) = (codes "requested-revision", type.Text) ∷ []
typed_keys (tables.OfSource source.Directory) = []
typed_keys (tables.OfSource other) =
    (codes "size", type.Size) ∷ (codes "upload-time", type.UploadTime) ∷ []

abbrev pub wrong_types : LockTable → Members → List (List ℕ)
wrong_types lock_table fields =
    flat_map (λ typed. wrong_at lock_table fields typed.0 typed.1) (typed_keys lock_table)
