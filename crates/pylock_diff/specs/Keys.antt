-- The keys of the entries of a name of which no other line tells.
use Rattle.std.specs.Prelude.{ℕ, Bool, true, false, not, ◌&&◌, ◌||◌, ◌++◌, List, [], ◌∷◌, codes}
use Rattle.std.specs.Prelude.{map, if◌then◌else◌, nat_eq, suc, Some}
use Rattle.std.specs.Cmp.Lexicographic.{pointwise}
use Rattle.std.specs.List.{join_by, list_any}
use Rattle.std.specs.Str.{bytes_eq}
use Rattle.pylock_compare.specs.Rows.{Row, under_each}
use Rattle.pylock_diff.specs.Change.{ChangeValue, change_of, told_where}
use Rattle.pylock_diff.specs.Codes.{Rows}
use Rattle.pylock_diff.specs.Item.{ItemValue}
use Rattle.pylock_diff.specs.SourceKeys.{is_one_of}
use Rattle.pylock_shown.specs.Hidden.{hidden}
use Rattle.pytoml_code.specs.Shown.{shown}
use Rattle.pylock_diff.specs.declared.change.ChangeKind.{ChangeKind}
use Rattle.pylock_diff.specs.declared.change.ChangeKind.TheVariants as kind

-- a code with the place of its entry among those of a name
abbrev pub Placed : Type 0
Placed = ℕ × List ℕ

-- the keys of an entry, or those of its sources of which no row tells
abbrev pub rows_of : (of_sources : Bool) → ItemValue → Rows
rows_of of_sources item = if of_sources then item.inner else item.keys

-- the rows of an entry at this place
abbrev pub placed_at : ℕ → Rows → List (Row Placed)
placed_at place rows = map (λ row. (row.0, (place, row.1))) rows

-- the rows of entries, the first of which has this place
abbrev pub placed_rows : Bool → ℕ → List ItemValue → List (Row Placed)
placed_rows of_sources place [] = []
placed_rows of_sources place (item ∷ items) =
    placed_at place (rows_of of_sources item) ++ placed_rows of_sources (suc place) items

-- the same values in the same entries
abbrev pub are_same_values : (olds news : List Placed) → Bool
are_same_values = pointwise (λ (old new : Placed). nat_eq old.0 new.0 && bytes_eq old.1 new.1)

-- the values as they are shown, joined by ` | `, or `-`
abbrev pub values_text : List Placed → List ℕ
values_text [] = codes "-"
values_text (value ∷ values) = join_by (λ placed. shown placed.1) (codes " | ") (value ∷ values)

abbrev pub key_text : List ℕ → List Placed → List ℕ
key_text key values = hidden key ++ codes " " ++ values_text values

-- ---- which key which change tells of

-- the sources of an entry, and that of a pick
abbrev pub is_source_key : List ℕ → Bool
is_source_key key =
    is_one_of (codes "vcs" ∷ codes "directory" ∷ codes "archive" ∷ codes "sdist" ∷ codes "wheels"
    ∷ codes "wheel" ∷ codes "editable" ∷ []) key

abbrev pub tells_of : ChangeKind → List ℕ → Bool
tells_of kind.Head key = false
tells_of kind.Added key = false
tells_of kind.Removed key = false
tells_of kind.Version key = bytes_eq key (codes "version") || is_source_key key
tells_of kind.Hash key = is_source_key key
tells_of kind.File key = is_source_key key
tells_of kind.Place key = is_source_key key
tells_of kind.Condition key =
    bytes_eq key (codes "marker") || bytes_eq key (codes "requires-python")
tells_of kind.Key key = is_source_key key
tells_of kind.Fault key = false

abbrev pub is_told : List ChangeValue → List ℕ → Bool
is_told told key = list_any (λ change. tells_of change.kind key) told

-- ---- the lines

abbrev pub key_changes : List ℕ → List ChangeValue → List ℕ → (olds news : List Placed)
    → List ChangeValue
key_changes name told key olds news =
    told_where (not (is_told told key) && not (are_same_values olds news))
    (change_of kind.Key name (Some (key_text key olds)) (Some (key_text key news)))

-- of the keys of entries of which these changes don't tell
abbrev pub changes_by : Bool → List ℕ → List ChangeValue → (olds news : List ItemValue)
    → List ChangeValue
changes_by of_sources name told olds news =
    under_each (key_changes name told) (placed_rows of_sources 0 olds)
    (placed_rows of_sources 0 news)

-- of the keys of sources of which no row tells
abbrev pub source_key_changes : List ℕ → (olds news : List ItemValue) → List ChangeValue
source_key_changes name = changes_by true name []

abbrev pub entry_key_changes : List ℕ → List ChangeValue → (olds news : List ItemValue)
    → List ChangeValue
entry_key_changes = changes_by false
