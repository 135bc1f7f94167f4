-- What of the installation steps is kept from one edit to the next, and what each edit touches.
use Rattle.std.specs.Prelude.{◌≡◌, ℕ, ◌+◌, Bool, true, false, ◌||◌, ◌&&◌, List, [], ◌∷◌, ◌++◌, map}
use Rattle.std.specs.Prelude.{filter, Option, Some, None, is_some}
use Rattle.std.specs.List.{list_any}
use Rattle.std.specs.Str.{bytes_eq}
use Rattle.pymark_core.specs.Change.{changed_key}
use Rattle.pymark_core.specs.Environment.{EnvironmentValue}
use Rattle.pymark_core.specs.Marker.Keys.{reads}
use Rattle.pymark_core.specs.Marker.Reading.{MarkerValue}
use Rattle.pymark_core.specs.Marker.Value.{AgreeAt}
use Rattle.pymark_core.specs.declared.marker.keys.Key.{Key}
use Rattle.pymark_core.specs.declared.marker.keys.Key.TheVariants.{Of, Extras, Groups}
use Rattle.pymark_core.specs.declared.variable.Var.TheVariants.{PythonFullVersion}
use Rattle.pymark_core.specs.Variables.{variables}
use Rattle.pywheel_core.specs.Tag.{TagValue}
use Rattle.pylock_readers.specs.Entry.{EntryValue}
use Rattle.pylock_readers.specs.Lock.{HeadValue}
use Rattle.pylock_core.specs.declared.edit.Edit.{Edit}
use Rattle.pylock_core.specs.declared.edit.Edit.TheVariants as edit
use Rattle.pylock_core.specs.Session.Names.{names_key}
use Rattle.pylock_core.specs.Session.State.{State, is_among, policy_of}
use Rattle.pylock_core.specs.Session.Steps.{standing, best_wheel, head_fault}
use Rattle.pylock_readers.specs.Entry.Kinds.{is_any}
use Rattle.pylock_core.specs.declared.answer.FaultCode.{FaultCode}
use Rattle.pylock_core.specs.declared.answer.Standing.{Standing}
use Rattle.pylock_core.specs.declared.edit.Policy.{Policy}

-- ---- verdicts

-- the verdict of an entry: how it stands, and its best wheel, if it has one under its name's policy
pub record VerdictValue : Type 0 where
  pub standing : Standing
  pub best : Option ℕ

abbrev pub verdict_of : EntryValue → EnvironmentValue → List TagValue → Policy → VerdictValue
verdict_of entry environment tags policy =
    record { standing = standing entry environment; best = best_wheel entry tags policy }

-- the verdicts of a session: that of the head, which is its fault or none, and those of the
-- entries, by their numbers
pub record Verdicts : Type 0 where
  pub head : Option FaultCode
  pub entries : List (ℕ × VerdictValue)

-- the verdict of an entry of the state
abbrev pub judged_in : State → EntryValue → VerdictValue
judged_in state entry =
    verdict_of entry state.environment state.tags (policy_of state.policies entry.name)

-- the verdicts of a state, all judged afresh
abbrev pub verdicts_of : State → Verdicts
verdicts_of state = record {
  head = head_fault state.head state.environment;
  entries = map (λ e. (e.0, judged_in state e.1)) state.entries;
}

-- ---- what is read

-- what an entry or the head may read: what a marker may read, and the tags
pub data IndexKey : Type 0 where
  Marked : Key → IndexKey
  OfTags : IndexKey

-- the fourteen keys
abbrev pub keys : List IndexKey
keys =
    map (λ variable. Marked (Of variable)) variables
    ++ Marked Extras ∷ Marked Groups ∷ OfTags ∷ []

-- whether a Python check reads the key
abbrev pub is_python : Key → Bool
is_python (Of PythonFullVersion) = true
is_python _ = false

-- what an entry reads: its marker, its Python check, and the tags where it has wheels
abbrev pub marker_reads : Key → Option MarkerValue → Bool
marker_reads key None = false
marker_reads key (Some m) = reads key m.tree

abbrev pub entry_reads : IndexKey → EntryValue → Bool
entry_reads (Marked key) entry =
    is_python key && is_some entry.requires_python || marker_reads key entry.marker
entry_reads OfTags entry = is_any entry.wheels

-- what the head reads: the markers of `environments` and its Python check
abbrev pub head_reads : IndexKey → HeadValue → Bool
head_reads (Marked key) head =
    is_python key && is_some head.requires_python
    || list_any (λ m. reads key m.tree) head.environments
head_reads OfTags head = false

-- two environments and tag lists have the same at the key
abbrev pub AgreeAtKey : IndexKey → EnvironmentValue → EnvironmentValue → List TagValue
    → List TagValue → Type 0
AgreeAtKey (Marked key) e f tags others = AgreeAt key e f
AgreeAtKey OfTags e f tags others = tags ≡ others

-- the numbers of the entries that pass the test
abbrev pub numbers_where : {X : Type 0} → (X → Bool) → List (ℕ × X) → List ℕ
numbers_where test es = map (λ e. e.0) (filter (λ e. test e.1) es)

-- the number of the head, where it passes
abbrev pub and_head : Bool → List ℕ → List ℕ
and_head true numbers = 0 ∷ numbers
and_head false numbers = numbers

-- the numbers of what reads the key, in increasing order: 0 for the head
abbrev pub readers : IndexKey → State → List ℕ
readers key state =
    and_head (head_reads key state.head) (numbers_where (entry_reads key) state.entries)

-- for each of the keys, in their order, what reads it
abbrev pub index_of : State → List (List ℕ)
index_of state = map (λ key. readers key state) keys

-- ---- what an edit touches

-- the numbers of what is judged again after an edit, in increasing order
abbrev pub touched : Edit → State → List ℕ
touched (edit.Environment change) state = readers (Marked (changed_key change)) state
touched (edit.Names change names) state = readers (Marked (names_key change)) state
touched (edit.Tags tags) state = readers OfTags state
touched (edit.Add entry) state = (state.last + 1) ∷ []
touched (edit.Put n entry) state = n ∷ []
touched (edit.Del n) state = []
touched (edit.Policy name policy) state =
    numbers_where (λ entry. bytes_eq name entry.name) state.entries
touched (edit.Policies names policy) state =
    numbers_where (λ entry. is_among names.items entry.name) state.entries

-- the numbers that the start judges: the head and every entry
abbrev pub all_numbers : State → List ℕ
all_numbers state = 0 ∷ map (λ e. e.0) state.entries

-- ---- a session

-- what a session is to contracts: its state, and beside it what it keeps
pub record SessionValue : Type 0 where
  pub state : State
  pub verdicts : Verdicts
  pub index : List (List ℕ)
  pub judged : List ℕ
