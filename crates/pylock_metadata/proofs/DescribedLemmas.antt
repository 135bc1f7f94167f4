-- What a lock says of its files where the document was read once.
use Rattle.std.proofs.Common.{◌≡◌, ◌∙◌, ◌++◌, ◌≤◌, ℕ, List, [], ◌∷◌, length, Option, None, Some, Result, Ok, Err, suc, refl, ap, sym, codes, nat_lt, Bool, true, false, if◌then◌else◌, arith, ltb-false}
use Rattle.std.specs.Prelude.{⊤}
use Rattle.toml.specs.Data.{Data, Items, Members, item, no_items, push_item, get_member, string, integer, float, boolean, datetime, array, table}
use Rattle.pytoml.specs.Members.{with_elements}
use Rattle.pytoml.proofs.Others.{with_member-there}
use Rattle.pytext.specs.Agreement.{Gives}
use Rattle.pytext.specs.Results.{◌>>=◌}
use Rattle.pylock_readers.specs.Entry.{EntryValue as LockEntry}
use Rattle.pylock_readers.specs.Lock.{HeadValue, LockValue}
use Rattle.pylock_readers.specs.Lock.Head.{created_by_in, head_in, lock_version_in}
use Rattle.pylock_readers.specs.Lock.Reading.{document_in, entries_in as lock_entries_in, entries_of as lock_entries_of, item_count, lock_in, lock_of, most_entries, packages_in, capacity_for}
use Rattle.pylock_readers.specs.Inner.Elements.{lock_with}
use Rattle.pylock_readers.specs.declared.error.LockError.{LockError}
use Rattle.pylock_readers.proofs.ElementLemmas.{count_push, with_is}
use Rattle.pylock_readers.specs.declared.error.LockError.TheVariants.{Memory, TooMany}
use Rattle.pylock_metadata.specs.Inner.Described.{HasDescribed, document_described, entries_after, entries_in, looked_at, with_metadata}
use Rattle.pylock_metadata.specs.Lock.{described_of}
use Rattle.pylock_metadata.specs.Metadata.{EntryValue, entries_of, entry_in, entry_of, metadata_of}
use Rattle.pylock_metadata.specs.Table.{items_in}
use Rattle.pylock_metadata.specs.View.{entries_view, entry_view, metadata_view}
use Rattle.pylock_metadata.specs.declared.entry.EntryMetadata.{EntryMetadata}
use Rattle.pylock_metadata.specs.declared.entry.Metadata.{Metadata}

-- the lock of a head and entries
abbrev lock_of_parts : HeadValue → List LockEntry → LockValue
lock_of_parts head es = record { head = head; entries = es }

-- the lock that these steps give, or the first refusal
abbrev lock_by : Result ⊤ LockError → Result ⊤ LockError → Result HeadValue LockError → Result (List LockEntry) LockError → Result LockValue LockError
lock_by version creator head entries = version >>= (λ _. creator >>= (λ _. head >>= (λ head. entries >>= (λ es. Ok (lock_of_parts head es)))))

-- a lock with what it says
abbrev pub Told : Type 0
Told = LockValue × List EntryValue

-- a lock says with these tables what it says with those that were looked at
abbrev Same : Result LockValue LockError → Items → Items → Type 0
Same lock ds looked = with_metadata (entries_of ds) lock ≡ with_metadata (entries_of looked) lock

-- room for entries, and the tables that are looked at, where there are too many or not
abbrev capacity_unless : Bool → Result ⊤ LockError
capacity_unless many = if many then Err TooMany else Ok tt

abbrev looked_unless : Bool → Items → Items
looked_unless many ds = if many then no_items else ds

by_count : (head : HeadValue) (ds : Items) (many : Bool)
    → Same ((capacity_unless many >>= (λ _. lock_entries_of 1 ds)) >>= (λ es. Ok (lock_of_parts head es))) ds (looked_unless many ds)
by_count head ds true = refl
by_count head ds false = refl

by_steps : (version : Result ⊤ LockError) (creator : Result ⊤ LockError) (head : Result HeadValue LockError) (packages : Option Data)
    → Same (lock_by version creator head (packages_in packages >>= (λ ds. capacity_for ds >>= (λ _. lock_entries_of 1 ds)))) (items_in packages) (looked_at (items_in packages))
by_steps (Err e) creator head packages = refl
by_steps (Ok x) (Err e) head packages = refl
by_steps (Ok x) (Ok y) (Err e) packages = refl
by_steps (Ok x) (Ok y) (Ok head) None = by_count head no_items (nat_lt most_entries (item_count no_items))
by_steps (Ok x) (Ok y) (Ok head) (Some (array ds)) = by_count head ds (nat_lt most_entries (item_count ds))
by_steps (Ok x) (Ok y) (Ok head) (Some (string text)) = refl
by_steps (Ok x) (Ok y) (Ok head) (Some (integer number)) = refl
by_steps (Ok x) (Ok y) (Ok head) (Some (float number)) = refl
by_steps (Ok x) (Ok y) (Ok head) (Some (boolean flag)) = refl
by_steps (Ok x) (Ok y) (Ok head) (Some (datetime moment)) = refl
by_steps (Ok x) (Ok y) (Ok head) (Some (table fields)) = refl

-- a document says what the lock says with it
beside_tables : (document : Members)
    → with_metadata (metadata_of document) (lock_in document) ≡ document_described document
unfolding lock_in lock_entries_in
beside_tables document =
    by_steps
    (lock_version_in (get_member (codes "lock-version") document))
    (created_by_in (get_member (codes "created-by") document))
    (head_in (get_member (codes "environments") document) (get_member (codes "requires-python") document) (get_member (codes "extras") document) (get_member (codes "dependency-groups") document) (get_member (codes "default-groups") document))
    (get_member (codes "packages") document)

-- the lock of a document with what it says
abbrev pub described_in : Result LockValue LockError → Result Members LockError → Result Told LockError
described_in lock document = do
  lock ← lock
  document ← document
  Ok (lock, metadata_of document)

-- the lock that the bytes are with what it says, from the document that they are
pub read_once : (bytes : List ℕ) → described_of bytes ≡ (document_in bytes >>= document_described)
unfolding described_of lock_of
read_once bytes = by (document_in bytes)
  where
    by : (document : Result Members LockError)
        → described_in (document >>= lock_in) document ≡ (document >>= document_described)
    by (Err e) = refl
    by (Ok d) = beside_tables d

pub given : (bytes : List ℕ) (result : Result (LockValue × Metadata) LockError)
    → Gives Memory (λ read. (read.0, metadata_view read.1)) result (document_in bytes >>= document_described)
    → Gives Memory (λ read. (read.0, metadata_view read.1)) result (described_of bytes)
given bytes (Ok a) is = read_once bytes ∙ is
given bytes (Err e) is = λ never. read_once bytes ∙ is never

-- ---- where the tables were taken as they came

-- a lock with too many entries is refused, whatever it says
refused_by : (document : Members) (d : Data) (ds : Items) (entries : List EntryValue) (others : List EntryValue)
    → nat_lt most_entries (item_count (item d ds)) ≡ true
    → with_metadata entries (lock_in (with_elements (codes "packages") (item d ds) document))
    ≡ with_metadata others (lock_in (with_elements (codes "packages") (item d ds) document))
unfolding lock_with
refused_by document d ds entries others many =
    rw (with_is document d ds, many)
    (by
    (lock_version_in (get_member (codes "lock-version") document))
    (created_by_in (get_member (codes "created-by") document))
    (head_in (get_member (codes "environments") document) (get_member (codes "requires-python") document) (get_member (codes "extras") document) (get_member (codes "dependency-groups") document) (get_member (codes "default-groups") document)))
  where
    by : (version : Result ⊤ LockError) (creator : Result ⊤ LockError) (head : Result HeadValue LockError)
        → with_metadata entries (lock_by version creator head (Err TooMany)) ≡ with_metadata others (lock_by version creator head (Err TooMany))
    by (Err e) creator head = refl
    by (Ok x) (Err e) head = refl
    by (Ok x) (Ok y) (Err e) = refl
    by (Ok x) (Ok y) (Ok head) = refl

-- a document says what its tables said as they came
pub described_is : (document : Members) (taken : Items) (entries : List EntryValue) → HasDescribed entries taken
    → with_metadata (entries_after entries document) (lock_in (with_elements (codes "packages") taken document))
    ≡ document_described (with_elements (codes "packages") taken document)
described_is document no_items [] described = refl
described_is document no_items (e ∷ es) described = let none : e ∷ es ≡ [] = described (omega arith) in cc
described_is document (item d ds) entries described = by (nat_lt most_entries (item_count (item d ds))) refl
  where
    whole : Members
    whole = with_elements (codes "packages") (item d ds) document

    by : (many : Bool) → nat_lt most_entries (item_count (item d ds)) ≡ many
        → with_metadata (entries_after entries document) (lock_in whole) ≡ document_described whole
    by true is = refused_by document d ds (entries_after entries document) (entries_in whole) is
    by false is =
        let came : entries ≡ entries_of (item d ds) = described (ltb-false most_entries (item_count (item d ds)) is) in
        rw (came, with_member-there (codes "packages") (array (item d ds)) document, is)

-- what the next table says, behind those before
pub entries_push : (ds : Items) (entry : Members) → entries_of (push_item ds (table entry)) ≡ entries_of ds ++ entry_in entry ∷ []
entries_push no_items entry = refl
entries_push (item d ds) entry = ap (λ rest. entry_of d ∷ rest) (entries_push ds entry)

entries_len : (ds : Items) → length (entries_of ds) ≡ item_count ds
entries_len no_items = refl
entries_len (item d ds) = ap suc (entries_len ds)

-- it was described
pub described_next : (entries : List EntryValue) (taken : Items) (entry : Members) → HasDescribed entries taken → HasDescribed (entries ++ entry_in entry ∷ []) (push_item taken (table entry))
described_next entries taken entry described few =
    let fewer : item_count taken ≤ most_entries = omega (arith, few, count_push taken (table entry)) in
    ap (λ es. es ++ entry_in entry ∷ []) (described fewer) ∙ sym (entries_push taken entry)

-- it is one too many
pub described_enough : (entries : List EntryValue) (taken : Items) (d : Data) → most_entries ≤ length entries → HasDescribed entries taken → HasDescribed entries (push_item taken d)
described_enough entries taken d enough described few =
    let fewer : item_count taken ≤ most_entries = omega (arith, few, count_push taken d) in
    let same : length entries ≡ item_count taken = ap length (described fewer) ∙ entries_len taken in
    absurd (omega (arith, few, count_push taken d, same, enough))

-- the same of the structs
pub viewed_more : (entries : List EntryMetadata) (said : EntryMetadata) → entries_view (entries ++ said ∷ []) ≡ entries_view entries ++ entry_view said ∷ []
viewed_more [] said = refl
viewed_more (e ∷ es) said = ap (λ rest. entry_view e ∷ rest) (viewed_more es said)

pub viewed_len : (entries : List EntryMetadata) → length (entries_view entries) ≡ length entries
viewed_len [] = refl
viewed_len (e ∷ es) = ap suc (viewed_len es)
