-- The keys of an entry and of its sources that a kind of finding tells of, each by its path.
use Rattle.std.specs.Prelude.{ℕ, ◌+◌, ◌++◌, codes, List, [], Option, Some}
use Rattle.toml.specs.Data.{Data, Items, Members, get_member, item, no_items, table}
use Rattle.pylock_core.specs.declared.answer.PickSource.{PickSource}
use Rattle.pylock_core.specs.declared.answer.PickSource.TheVariants as source
use Rattle.pylock_audit.specs.Keys.{items_at, unknown_keys}
use Rattle.pylock_audit.specs.Types.{wrong_types}
use Rattle.pylock_audit.specs.declared.finding.FindingKind.{FindingKind}
use Rattle.pylock_audit.specs.declared.finding.FindingKind.TheVariants as kind
use Rattle.pylock_audit.specs.declared.keys.LockTable.{LockTable}
use Rattle.pylock_audit.specs.declared.keys.LockTable.TheVariants as tables

-- those of a table, in order of code point
abbrev pub table_keys_told : FindingKind → LockTable → Members → List (List ℕ)
table_keys_told kind.UnknownKey lock_table fields = unknown_keys lock_table fields
table_keys_told kind.WrongType lock_table fields = wrong_types lock_table fields
table_keys_told kind lock_table fields = []

-- those of a source, which is a table
abbrev pub source_keys_told : FindingKind → PickSource → Option Data → List (List ℕ)
source_keys_told kind name (Some (table members)) =
    table_keys_told kind (tables.OfSource name) members
source_keys_told kind name field = []

-- those of wheels, the first of them at this place
abbrev pub wheel_keys_told : FindingKind → ℕ → Items → List (List ℕ)
wheel_keys_told kind place no_items = []
wheel_keys_told kind place (item d ds) =
    source_keys_told kind (source.Wheel place) (Some d) ++ wheel_keys_told kind (place + 1) ds

-- those of an entry: its own, and then those of its sources
abbrev pub entry_keys_told : FindingKind → Members → List (List ℕ)
entry_keys_told kind entry =
    table_keys_told kind tables.Entry entry
    ++ source_keys_told kind source.Vcs (get_member (codes "vcs") entry)
    ++ source_keys_told kind source.Directory (get_member (codes "directory") entry)
    ++ source_keys_told kind source.Archive (get_member (codes "archive") entry)
    ++ wheel_keys_told kind 0 (items_at (codes "wheels") entry)
    ++ source_keys_told kind source.Sdist (get_member (codes "sdist") entry)
