-- The entries of a lock that was read, each from the table in which it stands.
use Rattle.std.proofs.Common.{◌≡◌, ◌∙◌, ℕ, codes, List, [], ◌∷◌, map, suc, None, Option, Some, Result, Ok, Err, refl, sym, ap}
use Rattle.std.specs.Prelude.{⊤}
use Rattle.std.specs.List.{AllByRecursion}
use Rattle.toml.specs.Data.{Data, Items, Members, array, boolean, datetime, float, get_member, integer, item, no_items, string, table}
use Rattle.pytext.specs.Results.{◌>>=◌}
use Rattle.pytext.proofs.ResultsLemmas.{bind_ok}
use Rattle.pylock_compare.specs.Rows.{Row, values_at}
use Rattle.pylock_readers.specs.Entry.{EntryValue}
use Rattle.pylock_readers.specs.Entry.Reading.{entry_in, name_in}
use Rattle.pylock_readers.specs.Lock.{HeadValue, LockValue}
use Rattle.pylock_readers.specs.Lock.Head.{created_by_in, head_in, lock_version_in}
use Rattle.pylock_readers.specs.Lock.Reading.{at_position, entries_in, entries_of, lock_in, capacity_for}
use Rattle.pylock_readers.specs.declared.error.EntryError.{EntryError}
use Rattle.pylock_readers.specs.declared.error.LockError.{LockError}
use Rattle.pytoml_code.specs.Proper.{AreProper, HasProper, IfThere, IsProper}
use Rattle.pylock_diff.specs.Compared.{ComparedValue, entry_codes, item_codes, items_at}
use Rattle.pylock_diff.specs.Item.{ItemValue, entry_item, entry_items}
use Rattle.pylock_diff.specs.Partners.{item_key}
use Rattle.pylock_diff.specs.Same.{IsRead, values_of}
use Rattle.pylock_diff.specs.Same as same
use Rattle.pylock_diff.proofs.Same.Rest.{IsOfTable}
use Rattle.pylock_diff.proofs.Same.Tables.{has_row, proper_at, same_texts}

-- ---- an entry

-- the entry that a value is; what stands for another value is nothing that is asked for
abbrev pub entry_by : Result EntryValue EntryError → EntryValue
entry_by (Ok entry) = entry
entry_by (Err error) = record {
  name = [];
  version = None;
  vcs = None;
  directory = None;
  archive = None;
  sdist = None;
  wheels = [];
  marker = None;
  requires_python = None;
}

-- the row of an entry, from the value in the document
abbrev pub row_of : Data → Row ItemValue
row_of d = entry_item (entry_by (entry_in d)) (entry_codes d)

-- a value that is an entry: a table with a name
pub record IsEntry (d : Data) : Type 0 where
  pub members : Members
  pub is : d ≡ table members
  pub proper : HasProper members
  pub name : Data
  pub named : get_member (codes "name") members ≡ Some name

has_name : (rest : List ℕ → Result EntryValue EntryError) (entry : EntryValue) (found : Option Data) → (name_in found >>= rest) ≡ Ok entry → (d : Data) × (found ≡ Some d)
has_name rest entry None reads = absurd cc
has_name rest entry (Some d) reads = (d, refl)

is_entry : (d : Data) (entry : EntryValue) → IsProper d → entry_in d ≡ Ok entry → IsEntry d
unfolding entry_in
is_entry (string text) entry proper reads = absurd cc
is_entry (integer z) entry proper reads = absurd cc
is_entry (float x) entry proper reads = absurd cc
is_entry (boolean b) entry proper reads = absurd cc
is_entry (datetime moment) entry proper reads = absurd cc
is_entry (array items) entry proper reads = absurd cc
is_entry (table members) entry proper reads =
    let found = has_name _ entry (get_member (codes "name") members) reads in
    record { members = members; is = refl; proper = proper; name = found.0; named = found.1 }

-- the item of an entry is of its table
pub of_table : (d : Data) → IsEntry d → IsOfTable (row_of d).1
of_table d entry = by entry.is
  where
    by : d ≡ table entry.members → IsOfTable (row_of d).1
    by is = record {
      members = entry.members;
      proper = entry.proper;
      keys = ap (λ e. (entry_codes e).keys) is;
      named = λ none. has_row (codes "name") entry.name entry.members entry.named (ap (λ e. values_at (codes "name") (entry_codes e).keys) (sym is) ∙ none);
    }

-- entries with the same keys are the same value
pub exact : (d e : Data) → IsEntry d → IsEntry e → item_key (row_of d).1 ≡ item_key (row_of e).1 → d ≡ e
exact d e one other same =
    one.is
    ∙ ap table (same_texts one.members other.members one.proper other.proper
    (ap (λ v. item_key (entry_item (entry_by (entry_in v)) (entry_codes v)).1) (sym one.is) ∙ same ∙ ap (λ v. item_key (entry_item (entry_by (entry_in v)) (entry_codes v)).1) other.is))
    ∙ sym other.is

-- ---- the entries

abbrev pub given : Result (List EntryValue) LockError → List EntryValue
given (Ok entries) = entries
given (Err error) = []

-- the first is an entry, and so are the others
pub record IsFirst (place : ℕ) (d : Data) (ds : Items) (entries : List EntryValue) : Type 0 where
  pub entry : EntryValue
  pub more : List EntryValue
  pub reads : entry_in d ≡ Ok entry
  pub others : entries_of (suc place) ds ≡ Ok more
  pub whole : entries ≡ entry ∷ more

pub first_of : (place : ℕ) (d : Data) (ds : Items) (entries : List EntryValue) → entries_of place (item d ds) ≡ Ok entries → IsFirst place d ds entries
first_of place d ds entries reads =
    let one = bind_ok (at_position place (entry_in d)) (λ e. entries_of (suc place) ds >>= (λ es. Ok (e ∷ es))) entries reads in
    let two = bind_ok (entries_of (suc place) ds) (λ es. Ok (one.0 ∷ es)) entries one.2 in
    record { entry = one.0; more = two.0; reads = placed (entry_in d) one.0 one.1; others = two.1; whole = sym (ap given two.2) }
  where
    placed : (r : Result EntryValue EntryError) (entry : EntryValue) → at_position place r ≡ Ok entry → r ≡ Ok entry
    placed (Ok e) entry reads = cc
    placed (Err e) entry reads = absurd cc

pub all_entries : (place : ℕ) (ds : Items) (entries : List EntryValue) → entries_of place ds ≡ Ok entries → AreProper ds → AllByRecursion IsEntry (values_of ds)
all_entries place no_items entries reads proper = tt
all_entries place (item d ds) entries reads proper =
    let first = first_of place d ds entries reads in
    (is_entry d first.entry proper.0 first.reads, all_entries (suc place) ds first.more first.others proper.1)

pub rows_are : (place : ℕ) (ds : Items) (entries : List EntryValue) → entries_of place ds ≡ Ok entries → entry_items entries (item_codes ds) ≡ map row_of (values_of ds)
rows_are place no_items entries reads = ap (λ r. entry_items (given r) []) (sym reads)
rows_are place (item d ds) entries reads =
    let first = first_of place d ds entries reads in
    ap (λ es. entry_items es (entry_codes d ∷ item_codes ds)) first.whole
    ∙ (λ i. entry_item (entry_by (sym first.reads i)) (entry_codes d) ∷ rows_are (suc place) ds first.more first.others i)

-- ---- the lock

reserved : (capacity : Result ⊤ LockError) (read : Result (List EntryValue) LockError) (entries : List EntryValue) → (capacity >>= (λ r. read)) ≡ Ok entries → read ≡ Ok entries
reserved (Err e) read entries reads = absurd cc
reserved (Ok r) read entries reads = reads

entries_read : (field : Option Data) (entries : List EntryValue) → entries_in field ≡ Ok entries → entries_of 1 (items_at field) ≡ Ok entries
unfolding entries_in
entries_read None entries reads = reads
entries_read (Some (array ds)) entries reads = reserved (capacity_for ds) (entries_of 1 ds) entries reads
entries_read (Some (string text)) entries reads = absurd cc
entries_read (Some (integer z)) entries reads = absurd cc
entries_read (Some (float x)) entries reads = absurd cc
entries_read (Some (boolean b)) entries reads = absurd cc
entries_read (Some (datetime moment)) entries reads = absurd cc
entries_read (Some (table fields)) entries reads = absurd cc

abbrev entries_given : Result LockValue LockError → List EntryValue
entries_given (Ok lock) = lock.entries
entries_given (Err error) = []

by_steps : (version creator : Result ⊤ LockError) (head : Result HeadValue LockError) (entries : Result (List EntryValue) LockError) (lock : LockValue)
    → (version >>= (λ v. creator >>= (λ c. head >>= (λ h. entries >>= (λ es. Ok (record { head = h; entries = es })))))) ≡ Ok lock → entries ≡ Ok lock.entries
by_steps (Ok v) (Ok c) (Ok h) (Ok es) lock reads = ap (λ r. Ok (entries_given r)) reads
by_steps (Err e) creator head entries lock reads = absurd cc
by_steps (Ok v) (Err e) head entries lock reads = absurd cc
by_steps (Ok v) (Ok c) (Err e) entries lock reads = absurd cc
by_steps (Ok v) (Ok c) (Ok h) (Err e) lock reads = absurd cc

pub lock_read : (document : Members) (lock : LockValue) → lock_in document ≡ Ok lock → entries_of 1 (items_at (get_member (codes "packages") document)) ≡ Ok lock.entries
unfolding lock_in
lock_read document lock reads =
    entries_read (get_member (codes "packages") document) lock.entries
    (by_steps
    (lock_version_in (get_member (codes "lock-version") document))
    (created_by_in (get_member (codes "created-by") document))
    (head_in (get_member (codes "environments") document) (get_member (codes "requires-python") document) (get_member (codes "extras") document) (get_member (codes "dependency-groups") document) (get_member (codes "default-groups") document))
    (entries_in (get_member (codes "packages") document)) lock reads)

proper_items : (field : Option Data) → IfThere IsProper field → AreProper (items_at field)
proper_items None proper = tt
proper_items (Some (array ds)) proper = proper
proper_items (Some (string text)) proper = tt
proper_items (Some (integer z)) proper = tt
proper_items (Some (float x)) proper = tt
proper_items (Some (boolean b)) proper = tt
proper_items (Some (datetime moment)) proper = tt
proper_items (Some (table fields)) proper = tt

pub are_entries : (lock : ComparedValue) (document : Members) → IsRead lock document → AllByRecursion IsEntry (same.entries_of document)
are_entries lock document read =
    all_entries 1 (items_at (get_member (codes "packages") document)) lock.lock.entries (lock_read document lock.lock read.reads)
    (proper_items (get_member (codes "packages") document) (proper_at (codes "packages") document read.proper))

pub are_rows : (lock : ComparedValue) (document : Members) → IsRead lock document → entry_items lock.lock.entries lock.entries ≡ map row_of (same.entries_of document)
are_rows lock document read =
    ap (λ (c : ComparedValue). entry_items lock.lock.entries c.entries) read.all
    ∙ rows_are 1 (items_at (get_member (codes "packages") document)) lock.lock.entries (lock_read document lock.lock read.reads)
