-- What a lock's findings are where the document was read once.
use Rattle.std.proofs.Common.{◌≡◌, ◌∙◌, ◌++◌, ◌≤◌, ℕ, List, [], ◌∷◌, length, Option, None, Some, Result, Ok, Err, suc, refl, ap, sym, codes, nat_lt, nat_cmp, not, filter, Bool, true, false, if◌then◌else◌, Ordering, Less, Equal, Greater, Vec, Global, arith, ltb-false, ◌+◌, ◌<◌, drop, get_or}
use Rattle.std.proofs.lemmas.List.{at_drop_more}
use Rattle.std.specs.Prelude.{⊤}
use Rattle.std.specs.Cmp.Lexicographic.{slice_cmp}
use Rattle.toml.specs.Data.{Data, Items, Members, member, no_members, item, no_items, push_item, get_member, string, integer, float, boolean, datetime, array, table}
use Rattle.pytoml.specs.Members.{with_elements, with_member}
use Rattle.pytoml.proofs.Others.{with_elements-other, with_member-there}
use Rattle.pytext.specs.Agreement.{Gives}
use Rattle.pytext.specs.Results.{◌>>=◌}
use Rattle.pylock_readers.specs.Entry.{EntryValue}
use Rattle.pylock_readers.specs.Lock.{HeadValue, LockValue}
use Rattle.pylock_readers.specs.Lock.Head.{created_by_in, head_in, lock_version_in}
use Rattle.pylock_readers.specs.Lock.Reading.{document_in, entries_in, entries_of, item_count, lock_in, lock_of, most_entries, packages_in, capacity_for}
use Rattle.pylock_readers.specs.Inner.Elements.{lock_with}
use Rattle.pylock_readers.specs.declared.error.LockError.{LockError}
use Rattle.pylock_readers.proofs.ElementLemmas.{count_push, with_is}
use Rattle.pylock_readers.specs.declared.error.LockError.TheVariants.{Memory, TooMany}
use Rattle.pylock_audit.specs.Audit.{audited_of, document_findings, findings_of, head_findings, head_findings_where, lock_findings, members_in, of_entries, of_tables}
use Rattle.pylock_audit.specs.Entry.{TableValue, entry_findings, of_table}
use Rattle.pylock_audit.specs.Finding.{LockFindingValue, findings_at}
use Rattle.pylock_audit.specs.Inner.Tables.{HasLooked, document_audited, has_no_packages, looked_at, tables_after, tables_in, with_findings}
use Rattle.pylock_audit.specs.Keys.{is_named, items_in, table_keys}
use Rattle.pylock_audit.specs.declared.keys.LockTable.TheVariants as tables
use Rattle.pylock_audit.specs.declared.scope.Scope.{Scope}
use Rattle.pylock_audit.specs.declared.scope.Scope.TheVariants.{All}

-- the findings of entries from a place on, of which this one stands there
pub next_entry : (asked : Scope) (head : HeadValue) (place : ℕ) (es : List EntryValue) (e : EntryValue) (t : TableValue) (ts : List TableValue)
    → place < length es → e ≡ get_or es place e
    → of_entries asked head (place + 1) (drop place es) (t ∷ ts)
    ≡ findings_at (place + 1) (Some e.name) (entry_findings asked head t e) ++ of_entries asked head ((place + 1) + 1) (drop (place + 1) es) ts
next_entry asked head place es e t ts within here =
    let number : suc (place + 1) ≡ (place + 1) + 1 = omega arith in
    at_drop_more (λ rest. of_entries asked head (place + 1) rest (t ∷ ts)) es place e within
    ∙ ap (λ x. of_entries asked head (place + 1) (x ∷ drop (place + 1) es) (t ∷ ts)) (sym here)
    ∙ ap (λ n. findings_at (place + 1) (Some e.name) (entry_findings asked head t e) ++ of_entries asked head n (drop (place + 1) es) ts) number

-- the lock of a head and entries
abbrev lock_of_parts : HeadValue → List EntryValue → LockValue
lock_of_parts head es = record { head = head; entries = es }

-- the lock that these steps give, or the first refusal
abbrev lock_by : Result ⊤ LockError → Result ⊤ LockError → Result HeadValue LockError → Result (List EntryValue) LockError → Result LockValue LockError
lock_by version creator head entries = version >>= (λ _. creator >>= (λ _. head >>= (λ head. entries >>= (λ es. Ok (lock_of_parts head es)))))

-- a lock with what it gives
abbrev pub Audited : Type 0
Audited = LockValue × List LockFindingValue

abbrev beside : (LockValue → List LockFindingValue) → LockValue → Result Audited LockError
beside found lock = Ok (lock, found lock)

-- a lock has the findings that it has with these tables, with what those that were looked at gave
abbrev Same : List LockFindingValue → Result LockValue LockError → Items → Items → Type 0
Same found lock ds looked =
    (lock >>= beside (λ lock. found ++ of_entries All lock.head 1 lock.entries (of_tables ds)))
    ≡ (lock >>= beside (λ lock. found ++ of_entries All lock.head 1 lock.entries (of_tables looked)))

-- room for entries, and the tables that are looked at, where there are too many or not
abbrev capacity_unless : Bool → Result ⊤ LockError
capacity_unless many = if many then Err TooMany else Ok tt

abbrev looked_unless : Bool → Items → Items
looked_unless many ds = if many then no_items else ds

by_count : (found : List LockFindingValue) (head : HeadValue) (ds : Items) (many : Bool)
    → Same found ((capacity_unless many >>= (λ _. entries_of 1 ds)) >>= (λ es. Ok (lock_of_parts head es))) ds (looked_unless many ds)
by_count found head ds true = refl
by_count found head ds false = refl

by_steps : (found : List LockFindingValue) (version : Result ⊤ LockError) (creator : Result ⊤ LockError) (head : Result HeadValue LockError) (packages : Option Data)
    → Same found (lock_by version creator head (packages_in packages >>= (λ ds. capacity_for ds >>= (λ _. entries_of 1 ds)))) (items_in packages) (looked_at (items_in packages))
by_steps found (Err e) creator head packages = refl
by_steps found (Ok x) (Err e) head packages = refl
by_steps found (Ok x) (Ok y) (Err e) packages = refl
by_steps found (Ok x) (Ok y) (Ok head) None = by_count found head no_items (nat_lt most_entries (item_count no_items))
by_steps found (Ok x) (Ok y) (Ok head) (Some (array ds)) = by_count found head ds (nat_lt most_entries (item_count ds))
by_steps found (Ok x) (Ok y) (Ok head) (Some (string text)) = refl
by_steps found (Ok x) (Ok y) (Ok head) (Some (integer number)) = refl
by_steps found (Ok x) (Ok y) (Ok head) (Some (float number)) = refl
by_steps found (Ok x) (Ok y) (Ok head) (Some (boolean flag)) = refl
by_steps found (Ok x) (Ok y) (Ok head) (Some (datetime moment)) = refl
by_steps found (Ok x) (Ok y) (Ok head) (Some (table fields)) = refl

-- a document has the findings that the lock has with it
beside_tables : (document : Members)
    → (lock_in document >>= beside (document_findings document)) ≡ document_audited All document
unfolding lock_in entries_in
beside_tables document =
    by_steps
    (findings_at 0 None (head_findings document))
    (lock_version_in (get_member (codes "lock-version") document))
    (created_by_in (get_member (codes "created-by") document))
    (head_in (get_member (codes "environments") document) (get_member (codes "requires-python") document) (get_member (codes "extras") document) (get_member (codes "dependency-groups") document) (get_member (codes "default-groups") document))
    (get_member (codes "packages") document)

-- the lock of a document with its findings
abbrev pub audited_in : Result LockValue LockError → Result Members LockError → Result Audited LockError
audited_in lock document = do
  lock ← lock
  document ← document
  Ok (lock, document_findings document lock)

-- the lock that the bytes are with its findings, from the document that they are
pub read_once : (bytes : List ℕ) → audited_of bytes ≡ (document_in bytes >>= document_audited All)
unfolding audited_of lock_of
read_once bytes = by (document_in bytes)
  where
    by : (document : Result Members LockError)
        → audited_in (document >>= lock_in) document ≡ (document >>= document_audited All)
    by (Err e) = refl
    by (Ok d) = beside_tables d

-- the findings alone
abbrev pub alone : Audited → Result (List LockFindingValue) LockError
alone audited = Ok audited.1

findings_alone : (bytes : List ℕ) → findings_of bytes ≡ (audited_of bytes >>= alone)
unfolding findings_of
findings_alone bytes = refl

-- what was read, as a definition has it
abbrev pub Read : Type 0
Read = Result (LockValue × Vec LockFindingValue Global) LockError

pub given_audited : (bytes : List ℕ) (result : Read)
    → Gives Memory (λ audited. (audited.0, audited.1.items)) result (document_in bytes >>= document_audited All)
    → Gives Memory (λ audited. (audited.0, audited.1.items)) result (audited_of bytes)
given_audited bytes (Ok a) is = read_once bytes ∙ is
given_audited bytes (Err e) is = λ never. read_once bytes ∙ is never

pub given_found : (bytes : List ℕ) (result : Read)
    → Gives Memory (λ audited. (audited.0, audited.1.items)) result (document_in bytes >>= document_audited All)
    → Gives Memory (λ audited. audited.1.items) result (findings_of bytes)
given_found bytes (Ok a) is = findings_alone bytes ∙ ap (λ r. r >>= alone) (read_once bytes ∙ is)
given_found bytes (Err e) is = λ never. findings_alone bytes ∙ ap (λ r. r >>= alone) (read_once bytes ∙ is never)

-- ---- where the tables were taken as they came

-- a key that is named, beside the keys that aren't
unnamed_with : (k : List ℕ) (x : Data) (ms : Members) → is_named tables.Head k ≡ true
    → filter (λ key. not (is_named tables.Head key)) (table_keys (with_member k x ms))
    ≡ filter (λ key. not (is_named tables.Head key)) (table_keys ms)
unnamed_with k x no_members named = rw named
unnamed_with k x (member l e ms) named = by (unnamed_with k x ms named) (slice_cmp nat_cmp k l) refl
  where
    by : filter (λ key. not (is_named tables.Head key)) (table_keys (with_member k x ms)) ≡ filter (λ key. not (is_named tables.Head key)) (table_keys ms)
        → (o : Ordering) → slice_cmp nat_cmp k l ≡ o
        → filter (λ key. not (is_named tables.Head key)) (table_keys (with_member k x (member l e ms)))
        ≡ filter (λ key. not (is_named tables.Head key)) (table_keys (member l e ms))
    by more Less is = rw (is, named)
    by more Equal is = rw is
    by more Greater is = rw is (ap (λ rest. if not (is_named tables.Head l) then l ∷ rest else rest) more)

-- a head has the findings that it has with elements of `packages`
same_head : (document : Members) (ds : Items)
    → head_findings_where false (with_elements (codes "packages") ds document) ≡ head_findings_where false document
same_head document no_items = refl
same_head document (item d ds) =
    rw (
      with_elements-other (codes "lock-version") (codes "packages") (item d ds) document refl,
      unnamed_with (codes "packages") (array (item d ds)) document refl,
      with_elements-other (codes "tool") (codes "packages") (item d ds) document refl,
      with_elements-other (codes "extras") (codes "packages") (item d ds) document refl,
    )

-- a lock with too many entries is refused, whatever it has
refused_by : (document : Members) (d : Data) (ds : Items) (found : LockValue → List LockFindingValue) (other : LockValue → List LockFindingValue)
    → nat_lt most_entries (item_count (item d ds)) ≡ true
    → (lock_in (with_elements (codes "packages") (item d ds) document) >>= beside found)
    ≡ (lock_in (with_elements (codes "packages") (item d ds) document) >>= beside other)
unfolding lock_with
refused_by document d ds found other many =
    rw (with_is document d ds, many)
    (by
    (lock_version_in (get_member (codes "lock-version") document))
    (created_by_in (get_member (codes "created-by") document))
    (head_in (get_member (codes "environments") document) (get_member (codes "requires-python") document) (get_member (codes "extras") document) (get_member (codes "dependency-groups") document) (get_member (codes "default-groups") document)))
  where
    by : (version : Result ⊤ LockError) (creator : Result ⊤ LockError) (head : Result HeadValue LockError)
        → (lock_by version creator head (Err TooMany) >>= beside found) ≡ (lock_by version creator head (Err TooMany) >>= beside other)
    by (Err e) creator head = refl
    by (Ok x) (Err e) head = refl
    by (Ok x) (Ok y) (Err e) = refl
    by (Ok x) (Ok y) (Ok head) = refl

-- a document has the findings that it has with what its tables gave as they came
pub looked_is : (asked : Scope) (document : Members) (taken : Items) (tables : List TableValue) → HasLooked tables taken
    → with_findings asked (head_findings_where (has_no_packages tables document) document) (tables_after tables document) (lock_in (with_elements (codes "packages") taken document))
    ≡ document_audited asked (with_elements (codes "packages") taken document)
looked_is asked document no_items [] looked = refl
looked_is asked document no_items (t ∷ ts) looked = let none : t ∷ ts ≡ [] = looked (omega arith) in cc
looked_is asked document (item d ds) tables looked = by (nat_lt most_entries (item_count (item d ds))) refl
  where
    whole : Members
    whole = with_elements (codes "packages") (item d ds) document

    by : (many : Bool) → nat_lt most_entries (item_count (item d ds)) ≡ many
        → with_findings asked (head_findings_where (has_no_packages tables document) document) (tables_after tables document) (lock_in whole) ≡ document_audited asked whole
    by true is =
        refused_by document d ds
        (lock_findings asked (head_findings_where (has_no_packages tables document) document) (tables_after tables document))
        (lock_findings asked (head_findings whole) (tables_in whole))
        is
    by false is =
        let came : tables ≡ of_tables (item d ds) = looked (ltb-false most_entries (item_count (item d ds)) is) in
        rw (came, with_member-there (codes "packages") (array (item d ds)) document, is, sym (same_head document (item d ds)))

-- what the next table gives, behind those before
pub tables_push : (ds : Items) (members : Members) → of_tables (push_item ds (table members)) ≡ of_tables ds ++ of_table members ∷ []
tables_push no_items members = refl
tables_push (item d ds) members = ap (λ rest. of_table (members_in d) ∷ rest) (tables_push ds members)

tables_len : (ds : Items) → length (of_tables ds) ≡ item_count ds
tables_len no_items = refl
tables_len (item d ds) = ap suc (tables_len ds)

-- it was looked at
pub looked_next : (tables : List TableValue) (taken : Items) (members : Members) → HasLooked tables taken → HasLooked (tables ++ of_table members ∷ []) (push_item taken (table members))
looked_next tables taken members looked few =
    let fewer : item_count taken ≤ most_entries = omega (arith, few, count_push taken (table members)) in
    ap (λ ts. ts ++ of_table members ∷ []) (looked fewer) ∙ sym (tables_push taken members)

-- it is one too many
pub looked_enough : (tables : List TableValue) (taken : Items) (d : Data) → most_entries ≤ length tables → HasLooked tables taken → HasLooked tables (push_item taken d)
looked_enough tables taken d enough looked few =
    let fewer : item_count taken ≤ most_entries = omega (arith, few, count_push taken d) in
    let same : length tables ≡ item_count taken = ap length (looked fewer) ∙ tables_len taken in
    absurd (omega (arith, few, count_push taken d, same, enough))
