-- What stands for values that are lent: texts, rows, items and sources of two locks.
use Rattle.std.specs.Prelude.{ℕ, List, [], ◌∷◌, map, Option, Some, None, option_map}
use Rattle.std.specs.Borrow.{Bor}
use Rattle.pyver_core.specs.Set.Normal.{set_text}
use Rattle.pylock_readers.specs.Entry.{EntryValue}
use Rattle.pylock_core.specs.Session.Picks.{SourceValue, lent_source, sources}
use Rattle.pylock_core.specs.declared.picked.PickedSource.{PickedSource}
use Rattle.pylock_diff.specs.Head.{HeadKey}
use Rattle.pylock_diff.specs.Item.{ItemValue}
use Rattle.pylock_diff.specs.Keys.{Placed}
use Rattle.pylock_compare.specs.Rows.{Row}
use Rattle.pylock_diff.specs.declared.item.Item.{Item}
use Rattle.pylock_diff.specs.declared.item.Picked.{Picked}

-- a text of an entry, which a pick doesn't look at
abbrev pub where_entry : Option PickedSource → Option (List ℕ) → Option (List ℕ)
where_entry None text = text
where_entry (Some source) text = None

-- the sources of an entry, or the one that is picked
abbrev pub sources_by : EntryValue → Option PickedSource → List SourceValue
sources_by entry None = map (λ named. named.1) (sources entry)
sources_by entry (Some source) = lent_source source ∷ []

-- an item: an entry, or a pick of it, with its codes
abbrev pub lent_item : Item → ItemValue
lent_item item = record {
  version = item.package.now.version;
  marker = where_entry item.picked (option_map (λ marker. marker.text) item.package.now.marker);
  pythons = where_entry item.picked (option_map set_text item.package.now.requires_python);
  sources = sources_by item.package.now item.picked;
  keys = item.codes.now.keys;
  inner = item.codes.now.inner;
}

abbrev pub lent_items : List Item → List ItemValue
lent_items items = map lent_item items

abbrev pub item_row : Bor (List ℕ) × Item → Row ItemValue
item_row row = (row.0.now, lent_item row.1)

-- what stands for a pick with its entry, its source, and its fields as codes
abbrev pub lent_pick : Picked → Row ItemValue
lent_pick pick = (
  pick.package.now.name,
  record {
    version = pick.package.now.version;
    marker = None;
    pythons = None;
    sources = lent_source pick.source ∷ [];
    keys = pick.codes.keys;
    inner = pick.codes.inner;
  },
)

abbrev pub file_row : Bor (List ℕ) × PickedSource → Row SourceValue
file_row row = (row.0.now, lent_source row.1)

abbrev pub lent_sources : List PickedSource → List SourceValue
lent_sources sources = map lent_source sources

abbrev pub key_row : Bor (List ℕ) × Bor HeadKey → Row HeadKey
key_row row = (row.0.now, row.1.now)

abbrev pub hash_row : Bor (List ℕ) × Bor (List ℕ) → Row (List ℕ)
hash_row row = (row.0.now, row.1.now)

abbrev pub lent_place : ℕ × Bor (List ℕ) → Placed
lent_place placed = (placed.0, placed.1.now)

abbrev pub lent_places : List (ℕ × Bor (List ℕ)) → List Placed
lent_places values = map lent_place values

abbrev pub place_row : Bor (List ℕ) × (ℕ × Bor (List ℕ)) → Row Placed
place_row row = (row.0.now, lent_place row.1)
