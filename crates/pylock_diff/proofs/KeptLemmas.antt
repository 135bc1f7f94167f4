-- What is kept of a lock's tables, and what stands in memory of its document.
use Rattle.std.proofs.Common.{◌≡◌, ◌∙◌, ◌++◌, ℕ, ◌≤◌, ◌<◌, suc, drop, append-nil, lt-ltb, Bool, true, false, codes, nat_lt, List, [], ◌∷◌, length, Option, None, Some, Result, Ok, Err, Ordering, Less, Equal, Greater, if◌then◌else◌, refl, sym, ap, subst, arith, ltb-false, le-ltb, not, ◌||◌}
use Rattle.std.proofs.lemmas.Map.Text.{is_eq-slice_cmp}
use Rattle.std.proofs.lemmas.Cmp.{nat_list_cmp_total}
use Rattle.std.proofs.lemmas.List.{at_drop_all}
use Rattle.std.specs.Prelude.{⊤}
use Rattle.std.specs.Str.{bytes_eq}
use Rattle.std.specs.Cmp.{tied_itself}
use Rattle.std.specs.Cmp.Lexicographic.{bytes_decides, slice_cmp}
use Rattle.std.specs.Ordering.{is_eq, is_lt, nat_cmp, ordering_reverse}
use Rattle.toml.specs.View.{items_view}
use Rattle.toml.specs.declared.value.Value.{Value}
use Rattle.toml.specs.Data.{Data, Items, Members, array, boolean, datetime, float, get_member, integer, is_before, item, member, no_items, no_members, push_item, string, table}
use Rattle.pytext.specs.Results.{◌>>=◌}
use Rattle.pytoml.specs.Members.{with_elements, with_member}
use Rattle.pytoml.proofs.Others.{same_is, with_elements-other, with_member-there}
use Rattle.pylock_readers.proofs.ElementLemmas.{count_push}
use Rattle.pylock_readers.proofs.EntryLemmas.{count_of_items}
use Rattle.pylock_readers.specs.Entry.{EntryValue}
use Rattle.pylock_readers.specs.Entry.Reading.{entry_in}
use Rattle.pylock_readers.specs.Lock.{HeadValue, LockValue}
use Rattle.pylock_readers.specs.Lock.Head.{created_by_in, head_in, lock_version_in}
use Rattle.pylock_readers.specs.Lock.Reading.{at_position, entries_in, entries_of, item_count, lock_in, most_entries}
use Rattle.pylock_readers.specs.declared.error.EntryError.{EntryError}
use Rattle.pylock_readers.specs.declared.error.LockError.{LockError}
use Rattle.pylock_readers.specs.declared.error.LockError.TheVariants.{TooMany}
use Rattle.pytoml_code.specs.Proper.{AreProper, HasProper, IfThere, IsProper}
use Rattle.pylock_diff.specs.Compared.{compared_in, entry_codes, head_of, is_head_key, item_codes, items_at}
use Rattle.pylock_diff.specs.Head.{head_key}
use Rattle.pylock_diff.specs.declared.compared.EntryCodes.{EntryCodes}
use Rattle.pylock_diff.specs.Inner.Kept.{AreProperTables, AreTables, HasCodes, HasProperHead, HasProperTables, IsTable, entries_after, kept_of}

-- ---- the tables as they come

codes_push : (ds : Items) (d : Data) → item_codes (push_item ds d) ≡ item_codes ds ++ entry_codes d ∷ []
codes_push no_items d = refl
codes_push (item e ds) d = ap (λ rest. entry_codes e ∷ rest) (codes_push ds d)

codes_len : (ds : Items) → length (item_codes ds) ≡ item_count ds
codes_len no_items = refl
codes_len (item d ds) = ap suc (codes_len ds)

proper_push : (ds : Items) (d : Data) → AreProper ds → IsProper d → AreProper (push_item ds d)
proper_push no_items d are is = (is, tt)
proper_push (item e ds) d are is = (are.0, proper_push ds d are.1 is)

fewer : (taken : Items) (d : Data) → item_count (push_item taken d) ≤ most_entries → suc (item_count taken) ≤ most_entries
fewer taken d few = omega (arith, few, count_push taken d)

-- the codes of one more
pub kept_next : (before after : List EntryCodes) (code : EntryCodes) (taken : Items) (members : Members)
    → after ≡ before ++ code ∷ [] → code ≡ entry_codes (table members) → HasProper members → HasCodes before taken
    → HasCodes after (push_item taken (table members))
kept_next before after code taken members grown is proper has = record {
  codes = λ few.
      let less : suc (item_count taken) ≤ most_entries = fewer taken (table members) few in
      grown ∙ (λ i. has.codes (omega arith) i ++ is i ∷ []) ∙ sym (codes_push taken (table members));
  proper = λ few.
      let less : suc (item_count taken) ≤ most_entries = fewer taken (table members) few in
      proper_push taken (table members) (has.proper (omega arith)) proper;
}

-- one too many
pub kept_enough : (codes : List EntryCodes) (taken : Items) (d : Data) → most_entries ≤ length codes → HasCodes codes taken
    → HasCodes codes (push_item taken d)
kept_enough codes taken d enough has = record {
  codes = λ few. absurd (never few);
  proper = λ few. absurd (never few);
}
  where
    never : item_count (push_item taken d) ≤ most_entries → ⊥
    never few =
        let less : suc (item_count taken) ≤ most_entries = fewer taken d few in
        let same : length codes ≡ item_count taken = ap length (has.codes (omega arith)) ∙ codes_len taken in
        omega (arith, less, same, enough)

-- ---- the order of keys

abbrev Ascend : Members → Type 0
Ascend no_members = ⊤
Ascend (member key d ds) = (is_before key ds ≡ true) × Ascend ds

turned : (k l : List ℕ) (o : Ordering) → slice_cmp nat_cmp k l ≡ o → slice_cmp nat_cmp l k ≡ ordering_reverse o
turned k l o is = nat_list_cmp_total.antisymm l k ∙ ap ordering_reverse is

before_more : (k l : List ℕ) (ms : Members) → slice_cmp nat_cmp k l ≡ Less → is_before l ms ≡ true → is_before k ms ≡ true
before_more k l no_members less before = refl
before_more k l (member m d ms) less before = by (slice_cmp nat_cmp l m) refl before
  where
    by : (o : Ordering) → slice_cmp nat_cmp l m ≡ o → is_lt o ≡ true → is_lt (slice_cmp nat_cmp k m) ≡ true
    by Less is lt = ap is_lt (nat_list_cmp_total.trans k l m less is)
    by Equal is lt = cc
    by Greater is lt = cc

absent : (k : List ℕ) (ms : Members) → is_before k ms ≡ true → Ascend ms → get_member k ms ≡ None
absent k no_members before ascend = refl
absent k (member l d ms) before ascend = by (λ before. absent k ms before ascend.1) (slice_cmp nat_cmp k l) refl before
  where
    by : (is_before k ms ≡ true → get_member k ms ≡ None) → (o : Ordering) → slice_cmp nat_cmp k l ≡ o → is_lt o ≡ true
        → get_member k (member l d ms) ≡ None
    by more Less is lt = rw is (more (before_more k l ms is ascend.0))
    by more Equal is lt = cc
    by more Greater is lt = cc

before_with : (l k : List ℕ) (d : Data) (ms : Members) → slice_cmp nat_cmp k l ≡ Greater → is_before l ms ≡ true → is_before l (with_member k d ms) ≡ true
before_with l k d no_members behind before = ap is_lt (turned k l Greater behind)
before_with l k d (member m e ms) behind before = by (slice_cmp nat_cmp k m) refl
  where
    by : (o : Ordering) → slice_cmp nat_cmp k m ≡ o → is_before l (with_member k d (member m e ms)) ≡ true
    by Less is = rw is (ap is_lt (turned k l Greater behind))
    by Equal is = rw is before
    by Greater is = rw is before

-- one more key stands in order
ascend_with : (k : List ℕ) (d : Data) (ms : Members) → Ascend ms → Ascend (with_member k d ms)
ascend_with k d no_members ascend = (refl, tt)
ascend_with k d (member l e ms) ascend = by (ascend_with k d ms ascend.1) (slice_cmp nat_cmp k l) refl
  where
    by : Ascend (with_member k d ms) → (o : Ordering) → slice_cmp nat_cmp k l ≡ o → Ascend (with_member k d (member l e ms))
    by more Less is = rw is (ap is_lt is, ascend)
    by more Equal is = rw is ascend
    by more Greater is = rw is (before_with l k d ms is ascend.0, more)

-- a table stands in memory where each of its values does
proper_each : (ms : Members) → Ascend ms → ((key : List ℕ) → IfThere IsProper (get_member key ms)) → HasProper ms
proper_each no_members ascend each = tt
proper_each (member l d ms) ascend each =
    (ascend.0, rw (tied_itself nat_list_cmp_total l) at (each l), proper_each ms ascend.1 (λ key. by key (slice_cmp nat_cmp key l) refl))
  where
    by : (key : List ℕ) (o : Ordering) → slice_cmp nat_cmp key l ≡ o → IfThere IsProper (get_member key ms)
    by key Less is = rw is at (each key)
    by key Equal is =
        let none : get_member l ms ≡ None = absent l ms ascend.0 ascend.1 in
        subst (λ k. IfThere IsProper (get_member k ms)) (sym (same_is key l (ap is_eq is))) (rw none tt)
    by key Greater is = rw is at (each key)

-- ---- what a lock has

entry_is_table : (d : Data) (e : EntryValue) → entry_in d ≡ Ok e → IsTable d
unfolding entry_in
entry_is_table (table ms) e is = tt
entry_is_table (string text) e is = cc
entry_is_table (integer number) e is = cc
entry_is_table (float number) e is = cc
entry_is_table (boolean flag) e is = cc
entry_is_table (datetime moment) e is = cc
entry_is_table (array items) e is = cc

entries_are_tables : (place : ℕ) (ds : Items) (es : List EntryValue) → entries_of place ds ≡ Ok es → AreTables ds
entries_are_tables place no_items es is = tt
entries_are_tables place (item d ds) es is = by (entries_are_tables (suc place) ds) (entry_in d) (entries_of (suc place) ds) refl refl is
  where
    by : ((es : List EntryValue) → entries_of (suc place) ds ≡ Ok es → AreTables ds)
        → (one : Result EntryValue EntryError) (rest : Result (List EntryValue) LockError) → entry_in d ≡ one → entries_of (suc place) ds ≡ rest
        → (at_position place one >>= (λ e. rest >>= (λ es. Ok (e ∷ es)))) ≡ Ok es → AreTables (item d ds)
    by more (Err refusal) rest first others is = cc
    by more (Ok e) (Err refusal) first others is = cc
    by more (Ok e) (Ok xs) first others is = (entry_is_table d e first, more xs others)

-- the key `packages` of a lock
record IsListed (field : Option Data) : Type 0 where
  few : item_count (items_at field) ≤ most_entries
  tables : AreTables (items_at field)
  proper : AreProper (items_at field) → IfThere IsProper field

abbrev capacity_unless : Bool → Result ⊤ LockError
capacity_unless many = if many then Err TooMany else Ok tt

listed : (field : Option Data) (es : List EntryValue) → entries_in field ≡ Ok es → IsListed field
unfolding entries_in
listed None es is = record { few = omega arith; tables = tt; proper = λ proper. tt }
listed (Some (string text)) es is = cc
listed (Some (integer number)) es is = cc
listed (Some (float number)) es is = cc
listed (Some (boolean flag)) es is = cc
listed (Some (datetime moment)) es is = cc
listed (Some (table ms)) es is = cc
listed (Some (array ds)) es is = by (nat_lt most_entries (item_count ds)) refl is
  where
    by : (many : Bool) → nat_lt most_entries (item_count ds) ≡ many
        → (capacity_unless many >>= (λ capacity. entries_of 1 ds)) ≡ Ok es → IsListed (Some (array ds))
    by true many is = cc
    by false many is = record {
      few = ltb-false most_entries (item_count ds) many;
      tables = entries_are_tables 1 ds es is;
      proper = λ proper. proper;
    }

-- who made a lock is a text, and its entries are tables
lock_parts : (document : Members) (lock : LockValue) → lock_in document ≡ Ok lock
    → IfThere IsProper (get_member (codes "created-by") document) × IsListed (get_member (codes "packages") document)
unfolding lock_in
lock_parts document lock is =
    by
    (lock_version_in (get_member (codes "lock-version") document))
    (get_member (codes "created-by") document)
    (head_in (get_member (codes "environments") document) (get_member (codes "requires-python") document) (get_member (codes "extras") document) (get_member (codes "dependency-groups") document) (get_member (codes "default-groups") document))
    is
  where
    packages : Option Data
    packages = get_member (codes "packages") document

    last : (head : HeadValue) (read : Result (List EntryValue) LockError) → entries_in packages ≡ read
        → (read >>= (λ es. Ok (record { head = head; entries = es }))) ≡ Ok lock → IsListed packages
    last head (Err e) from is = cc
    last head (Ok es) from is = listed packages es from

    by : (version : Result ⊤ LockError) (field : Option Data) (head : Result HeadValue LockError)
        → (version >>= (λ _. created_by_in field >>= (λ _. head >>= (λ head. entries_in packages >>= (λ es. Ok (record { head = head; entries = es })))))) ≡ Ok lock
        → IfThere IsProper field × IsListed packages
    by (Err e) field head is = cc
    by (Ok x) None head is = cc
    by (Ok x) (Some (integer number)) head is = cc
    by (Ok x) (Some (float number)) head is = cc
    by (Ok x) (Some (boolean flag)) head is = cc
    by (Ok x) (Some (datetime moment)) head is = cc
    by (Ok x) (Some (array items)) head is = cc
    by (Ok x) (Some (table fields)) head is = cc
    by (Ok x) (Some (string text)) (Err e) is = cc
    by (Ok x) (Some (string text)) (Ok head) is = (tt, last head (entries_in packages) refl is)

-- ---- the lock with what was kept

-- the head has the keys that it has with elements of `packages`
head_with : (key : List ℕ) (x : Data) (ms : Members) → is_head_key key ≡ false → head_of (with_member key x ms) ≡ head_of ms
head_with k x no_members other = rw other
head_with k x (member l e ms) other = by (head_with k x ms other) (slice_cmp nat_cmp k l) refl
  where
    by : head_of (with_member k x ms) ≡ head_of ms → (o : Ordering) → slice_cmp nat_cmp k l ≡ o
        → head_of (with_member k x (member l e ms)) ≡ head_of (member l e ms)
    by more Less is = rw (is, other)
    by more Equal is =
        let same : k ≡ l = same_is k l (ap is_eq is) in
        let skip : is_head_key l ≡ false = ap is_head_key (sym same) ∙ other in
        rw (is, skip)
    by more Greater is = rw is (ap (λ rest. if is_head_key l then head_key l e ∷ rest else rest) more)

head_same : (document : Members) (taken : Items) → head_of (with_elements (codes "packages") taken document) ≡ head_of document
head_same document no_items = refl
head_same document (item d ds) = head_with (codes "packages") (array (item d ds)) document refl

kept_few : (ds : Items) → item_count ds ≤ most_entries → kept_of ds ≡ item_codes ds
kept_few ds few = rw (le-ltb most_entries (item_count ds) few)

entries_same : (document : Members) (taken : Items) (entries : List EntryCodes) → HasCodes entries taken
    → IsListed (get_member (codes "packages") (with_elements (codes "packages") taken document))
    → entries_after entries document ≡ item_codes (items_at (get_member (codes "packages") (with_elements (codes "packages") taken document)))
entries_same document no_items [] has is = kept_few _ is.few
entries_same document no_items (entry ∷ entries) has is = let none : entry ∷ entries ≡ [] = has.codes (omega arith) in cc
entries_same document (item d ds) entries has is =
    let there = with_member-there (codes "packages") (array (item d ds)) document in
    let few : item_count (item d ds) ≤ most_entries = rw there at is.few in
    rw (has.codes few, there)

-- the lock of a document and of the elements that were taken from it, with what was kept of both
pub compared_is : (document : Members) (taken : Items) (entries : List EntryCodes) (lock : LockValue) → HasCodes entries taken
    → lock_in (with_elements (codes "packages") taken document) ≡ Ok lock
    → compared_in (with_elements (codes "packages") taken document) ≡ Ok (record { lock = lock; head = head_of document; entries = entries_after entries document })
compared_is document taken entries lock has is =
    let parts = lock_parts (with_elements (codes "packages") taken document) lock is in
    rw is
    (λ i. Ok (record { lock = lock; head = head_same document taken i; entries = sym (entries_same document taken entries has parts.1) i }))

-- ---- the document in memory

ascends : (document : Members) → HasProperHead document → Ascend document
ascends no_members has = tt
ascends (member key d ds) has = (has.0, ascends ds has.2)

proper_at : (document : Members) (key : List ℕ) → HasProperHead document → is_head_key key ≡ true → IfThere IsProper (get_member key document)
proper_at no_members key has is = tt
proper_at (member l d ds) key has is = by (proper_at ds key has.2 is) (slice_cmp nat_cmp key l) refl
  where
    by : IfThere IsProper (get_member key ds) → (o : Ordering) → slice_cmp nat_cmp key l ≡ o → IfThere IsProper (get_member key (member l d ds))
    by more Less at = rw at more
    by more Equal at = rw at (has.1 (ap is_head_key (sym (same_is key l (ap is_eq at))) ∙ is))
    by more Greater at = rw at more

whole_ascends : (document : Members) (taken : Items) → Ascend document → Ascend (with_elements (codes "packages") taken document)
whole_ascends document no_items ascend = ascend
whole_ascends document (item d ds) ascend = ascend_with (codes "packages") (array (item d ds)) document ascend

packages_proper : (document : Members) (taken : Items) (entries : List EntryCodes) → HasCodes entries taken → HasProperTables entries document
    → IsListed (get_member (codes "packages") (with_elements (codes "packages") taken document))
    → AreProper (items_at (get_member (codes "packages") (with_elements (codes "packages") taken document)))
packages_proper document no_items [] has tables is = tables is.few is.tables
packages_proper document no_items (entry ∷ entries) has tables is = let none : entry ∷ entries ≡ [] = has.codes (omega arith) in cc
packages_proper document (item d ds) entries has tables is =
    let there = with_member-there (codes "packages") (array (item d ds)) document in
    let few : item_count (item d ds) ≤ most_entries = rw there at is.few in
    rw there (has.proper few)

-- all of the document stands in memory
pub whole_is_proper : (document : Members) (taken : Items) (entries : List EntryCodes) (lock : LockValue) → HasCodes entries taken
    → HasProperHead document → HasProperTables entries document
    → lock_in (with_elements (codes "packages") taken document) ≡ Ok lock
    → HasProper (with_elements (codes "packages") taken document)
whole_is_proper document taken entries lock has head tables is =
    proper_each whole (whole_ascends document taken (ascends document head))
    (λ key. by key (bytes_eq key (codes "packages")) (bytes_eq key (codes "created-by")) refl refl)
  where
    whole : Members
    whole = with_elements (codes "packages") taken document

    parts : IfThere IsProper (get_member (codes "created-by") whole) × IsListed (get_member (codes "packages") whole)
    parts = lock_parts whole lock is

    by : (key : List ℕ) (packages creator : Bool) → bytes_eq key (codes "packages") ≡ packages → bytes_eq key (codes "created-by") ≡ creator
        → IfThere IsProper (get_member key whole)
    by key true creator one other =
        subst (λ k. IfThere IsProper (get_member k whole)) (sym ((bytes_decides key (codes "packages")).0 one))
        (parts.1.proper (packages_proper document taken entries has tables parts.1))
    by key false true one other =
        subst (λ k. IfThere IsProper (get_member k whole)) (sym ((bytes_decides key (codes "created-by")).0 other)) parts.0
    by key false false one other =
        let aside = with_elements-other key (codes "packages") taken document (is_eq-slice_cmp key (codes "packages") ∙ one) in
        let compared : is_head_key key ≡ true = λ i. not (one i || other i) in
        rw aside (proper_at document key head compared)

-- ---- the loops over the document and over its tables

pub head_next : (key : List ℕ) (d : Data) (ds : Members) → is_head_key key ≡ true → head_of (member key d ds) ≡ head_key key d ∷ head_of ds
head_next key d ds is = rw is

pub head_skipped : (key : List ℕ) (d : Data) (ds : Members) → is_head_key key ≡ false → head_of (member key d ds) ≡ head_of ds
head_skipped key d ds other = rw other

-- none of too many
pub kept_none : (vs : List Value) → most_entries < length vs → kept_of (items_view vs) ≡ []
kept_none vs many = let over : most_entries < item_count (items_view vs) = omega (arith, many, count_of_items vs) in rw (lt-ltb most_entries (item_count (items_view vs)) over)

pub none_proper : (vs : List Value) → most_entries < length vs → AreProperTables (items_view vs)
none_proper vs many few tables = absurd (omega (arith, many, few, count_of_items vs))

-- all of not too many
pub kept_all : (vs : List Value) (i : ℕ) (entries : List EntryCodes) → length vs ≤ i → length vs ≤ most_entries
    → entries ++ item_codes (items_view (drop i vs)) ≡ item_codes (items_view vs) → entries ≡ kept_of (items_view vs)
kept_all vs i entries past few so_far =
    let fewer : item_count (items_view vs) ≤ most_entries = omega (arith, few, count_of_items vs) in
    sym (append-nil entries) ∙ sym (at_drop_all (λ left. entries ++ item_codes (items_view left)) vs i past) ∙ so_far
    ∙ sym (kept_few (items_view vs) fewer)
