-- The parts of a session, and how they belong together.
use Rattle.std.specs.Prelude.{◌≡◌, ℕ, ◌≤◌, true, List, ◌∷◌, map, length, Option, Some, None}
use Rattle.std.specs.Prelude.{is_some, []}
use Rattle.std.specs.Global.{Global}
use Rattle.std.specs.Str.{bytes_eq}
use Rattle.std.specs.declared.vec.Vec.{Vec}
use Rattle.pymark_core.specs.Environment.{EnvironmentValue}
use Rattle.pywheel_core.specs.Tag.{TagValue}
use Rattle.pylock_readers.specs.Entry.{EntryValue}
use Rattle.pylock_core.specs.Inner.Tables.Conditions.{Condition, HasNumber, IsUnder}
use Rattle.pylock_core.specs.Inner.Tables.Names.{IsNames, members_named, number_named, policies_in}
use Rattle.pylock_core.specs.Inner.Tables.Names.{policy_at}
use Rattle.pylock_core.specs.Session.State.{in_rows, State}
use Rattle.pylock_core.specs.Inner.Tables.TagSets.{AreSets}
use Rattle.pylock_core.specs.Session.Judgement.{SessionValue, VerdictValue, and_head, entry_reads}
use Rattle.pylock_core.specs.Session.Judgement.{head_reads, keys, numbers_where, verdict_of}
use Rattle.pylock_readers.specs.Lock.{HeadValue}
use Rattle.pylock_core.specs.Session.Steps.{head_fault}
use Rattle.pylock_readers.specs.Entry.Kinds.{has_conflict}
use Rattle.pylock_core.specs.declared.edit.Policy.{Policy}
use Rattle.pylock_core.specs.declared.session.tables.names.Names.{Names}
use Rattle.pylock_core.specs.declared.session.parts.Parts.{Parts}
use Rattle.pylock_core.specs.declared.session.tables.rows.Row.{Row}
use Rattle.pylock_core.specs.declared.session.tables.rows.SourceKinds.{SourceKinds}

-- ---- what the parts show

abbrev pub state_of : Parts → State
state_of parts = record {
  head = parts.head;
  entries = in_rows 1 parts.entries.items;
  last = length parts.entries.items;
  environment = parts.environment;
  tags = parts.tags;
  policies = policies_in parts.names;
}

abbrev pub verdict_in : Option Row → Option VerdictValue
verdict_in None = None
verdict_in (Some row) = Some row.verdict

abbrev pub shown : Parts → SessionValue
shown parts = record {
  state = state_of parts;
  verdicts = record {
    head = parts.head_verdict;
    entries = in_rows 1 (map verdict_in parts.rows.items);
  };
  index = map (λ list. list.items) parts.index;
  judged = parts.judged;
}

-- ---- what a row keeps of its entry

abbrev pub sources_of : EntryValue → SourceKinds
sources_of entry = record {
  vcs = is_some entry.vcs;
  directory = is_some entry.directory;
  archive = is_some entry.archive;
  sdist = is_some entry.sdist;
  conflict = has_conflict entry;
}

-- the name and the sources of an entry, which no judgement changes
pub record IsNamed (names : Names) (entry : EntryValue) (row : Row) : Type 0 where
  pub name : number_named names entry.name ≡ Some row.name
  pub sources : row.sources ≡ sources_of entry

abbrev pub IsJudged : EnvironmentValue → List TagValue → List Policy → EntryValue → Row → Type 0
IsJudged environment tags policies entry row =
    row.verdict ≡ verdict_of entry environment tags (policy_at policies row.name)

-- what holds of an entry and its row, where both stand
abbrev pub OfBoth : (EntryValue → Row → Type 0) → Option EntryValue → Option Row → Type 0
OfBoth P None None = Unit {0}
OfBoth P None (Some row) = ⊥
OfBoth P (Some entry) None = ⊥
OfBoth P (Some entry) (Some row) = P entry row

-- what holds of each entry and its row
abbrev pub OfRows : (EntryValue → Row → Type 0) → List (Option EntryValue) → List (Option Row)
    → Type 0
OfRows P [] [] = Unit {0}
OfRows P [] (row ∷ rows) = ⊥
OfRows P (entry ∷ entries) [] = ⊥
OfRows P (entry ∷ entries) (row ∷ rows) = OfBoth P entry row × OfRows P entries rows

-- ---- what is found under a name or a key

-- the numbers of the entries of each name
abbrev pub AreMembers : Names → List (Option EntryValue) → Type 0
AreMembers names entries =
    (name : List ℕ)
    → members_named names name
    ≡ numbers_where (λ entry. bytes_eq name entry.name) (in_rows 1 entries)

-- the numbers of what reads each key
abbrev pub IsIndex : List (Vec ℕ Global) → HeadValue → List (Option EntryValue) → Type 0
IsIndex lists head entries =
    map (λ list. list.items) lists
    ≡ map (λ key. and_head (head_reads key head)
    (numbers_where (entry_reads key) (in_rows 1 entries))) keys

-- the numbers of the entries that stand
abbrev pub AreLiving : List ℕ → List (Option EntryValue) → Type 0
AreLiving numbers entries = numbers ≡ numbers_where (λ entry. true) (in_rows 1 entries)

-- ---- the numbers of conditions

-- so many numbers were given, each to one condition, and each entry has the number of its own
abbrev pub AreNumbered : ℕ → List (Option EntryValue) → List (Option Row) → Type 0
AreNumbered count entries rows =
    (known : List Condition) × (length known ≡ count) × OfRows (IsUnder known) entries rows

-- and one more entry might have this number
abbrev pub NumberFits : ℕ → List (Option EntryValue) → List (Option Row) → EntryValue → Option ℕ
    → Type 0
NumberFits count entries rows entry number =
    (known : List Condition) × (length known ≡ count) × OfRows (IsUnder known) entries rows
    × HasNumber known entry number

-- and one more entry might have this row
abbrev pub RowFits : ℕ → List (Option EntryValue) → List (Option Row) → Option EntryValue
    → Option Row → Type 0
RowFits count entries rows entry row =
    (known : List Condition) × (length known ≡ count) × OfRows (IsUnder known) entries rows
    × OfBoth (IsUnder known) entry row

-- ---- the whole

pub record IsSession (parts : Parts) : Type 0 where
  pub few : length parts.entries.items ≤ 100000
  pub named : OfRows (IsNamed parts.names) parts.entries.items parts.rows.items
  pub judged : OfRows (IsJudged parts.environment parts.tags parts.names.policies.items)
      parts.entries.items parts.rows.items
  pub head : parts.head_verdict ≡ head_fault parts.head parts.environment
  pub names : IsNames parts.names
  pub members : AreMembers parts.names parts.entries.items
  pub index : IsIndex parts.index parts.head parts.entries.items
  pub living : AreLiving parts.living.items parts.entries.items
  pub sets : AreSets parts.sets parts.entries.items
  pub conditions : AreNumbered parts.conditions.count parts.entries.items parts.rows.items
