-- What is compared: the entries of a lock, or the picks of a plan (PEP 751, `packages`). Of a pick
-- its own source counts, and no marker and no set of Pythons, which the plan has judged.
use Rattle.std.specs.Prelude.{ℕ, List, [], ◌∷◌, map, Option, None, option_map}
use Rattle.std.specs.List.{flat_map}
use Rattle.std.specs.Option.{option_map_or}
use Rattle.pyver_core.specs.Set.Normal.{set_text}
use Rattle.pylock_compare.specs.Rows.{Row}
use Rattle.pylock_readers.specs.Entry.{EntryValue}
use Rattle.pylock_core.specs.Session.Picks.{SourceValue, source_in, sources}
use Rattle.pylock_core.specs.Session.State.{State, entry_at}
use Rattle.pylock_core.specs.declared.answer.Pick.{Pick}
use Rattle.pylock_diff.specs.Codes.{Rows}
use Rattle.pylock_diff.specs.Picks.{pick_fields}
use Rattle.pylock_diff.specs.declared.compared.EntryCodes.{EntryCodes}

-- A marker's text has no white space round it, and a set stands for its normal text. The keys are
-- all that the entry has, with the codes of their values.
pub record ItemValue : Type 0 where
  pub version : Option (List ℕ)
  pub marker : Option (List ℕ)
  pub pythons : Option (List ℕ)
  pub sources : List SourceValue
  pub keys : Rows
  pub inner : Rows

abbrev pub entry_item : EntryValue → EntryCodes → Row ItemValue
entry_item entry codes = (
  entry.name,
  record {
    version = entry.version;
    marker = option_map (λ marker. marker.text) entry.marker;
    pythons = option_map set_text entry.requires_python;
    sources = map (λ named. named.1) (sources entry);
    keys = codes.keys;
    inner = codes.inner;
  },
)

-- entries, each with its codes
abbrev pub entry_items : List EntryValue → List EntryCodes → List (Row ItemValue)
entry_items [] codes = []
entry_items (entry ∷ entries) [] = []
entry_items (entry ∷ entries) (code ∷ codes) = entry_item entry code ∷ entry_items entries codes

-- a pick's entry and source: its number is that of an entry that has its source, so they are there
abbrev pub picked_entry : State → Pick → List (EntryValue × SourceValue)
picked_entry state pick =
    option_map_or
    (λ entry. option_map_or (λ source. (entry, source) ∷ []) (source_in entry pick.source) [])
    (entry_at pick.id state.entries) []

abbrev pub picked_entries : State → List Pick → List (EntryValue × SourceValue)
picked_entries state picks = flat_map (picked_entry state) picks

abbrev pub picked_row : EntryValue × SourceValue → Row ItemValue
picked_row pick = (
  pick.0.name,
  record {
    version = pick.0.version;
    marker = None;
    pythons = None;
    sources = pick.1 ∷ [];
    keys = pick_fields pick.0 pick.1;
    inner = [];
  },
)

abbrev pub pick_items : State → List Pick → List (Row ItemValue)
pick_items state picks = map picked_row (picked_entries state picks)
