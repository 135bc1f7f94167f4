-- Of locks without a change, what is installed is the same.
use Rattle.std.proofs.Common.{[], ◌≡◌, ◌∙◌, ℕ, ◌+◌, suc, codes, List, ◌∷◌, length, map, Option, Result, Ok, Err, refl, sym, ap, subst, arith, IsPermutation}
use Rattle.std.specs.Prelude.{⊤, true}
use Rattle.std.specs.List.{AllByRecursion, enumerate_from}
use Rattle.std.proofs.lemmas.List.Sorted.{IsPermutation-map}
use Rattle.toml.specs.Data.{Data, Items, Members, get_member, item, no_items}
use Rattle.pymark_core.specs.Environment.{EnvironmentValue}
use Rattle.pytext.specs.Results.{◌>>=◌}
use Rattle.pylock_readers.specs.Entry.{EntryValue}
use Rattle.pylock_readers.specs.Entry.Reading.{entry_in}
use Rattle.pylock_readers.specs.Lock.{HeadValue, LockValue}
use Rattle.pylock_readers.specs.Lock.Head.{created_by_in, head_in, lock_version_in}
use Rattle.pylock_readers.specs.Lock.Reading.{entries_in, entries_of, lock_in}
use Rattle.pylock_readers.specs.declared.error.LockError.{LockError}
use Rattle.pylock_core.specs.Session.State.{Rises, first}
use Rattle.pylock_core.specs.declared.edit.Edit.{Edit}
use Rattle.pylock_diff.specs.Changes.{lock_changes}
use Rattle.pylock_diff.specs.Compared.{ComparedValue, items_at}
use Rattle.pylock_diff.specs.Same.{HoldSameLock, IsRead, values_of}
use Rattle.pylock_diff.specs.Same as same
use Rattle.pylock_diff.specs.SamePicks.{PickSame, after_edits, leaves_entries}
use Rattle.pylock_diff.proofs.Same.Law.{told}
use Rattle.pylock_diff.proofs.Same.Reading.{entry_by, first_of, given, lock_read}
use Rattle.pylock_diff.proofs.Answered.Edits.{all_kept, entries_stay}
use Rattle.pylock_diff.proofs.Answered.Steps.{others_pick_same, with_others}

-- ---- the head

abbrev field : List ℕ → Members → Option Data
field key document = get_member key document

-- the head that a document has
abbrev head_by : Members → Result HeadValue LockError
head_by document =
    head_in (field (codes "environments") document) (field (codes "requires-python") document) (field (codes "extras") document)
    (field (codes "dependency-groups") document) (field (codes "default-groups") document)

abbrev head_given : HeadValue → Result LockValue LockError → HeadValue
head_given other (Ok lock) = lock.head
head_given other (Err error) = other

by_steps : (version creator : Result ⊤ LockError) (head : Result HeadValue LockError) (entries : Result (List EntryValue) LockError) (lock : LockValue)
    → (version >>= (λ v. creator >>= (λ c. head >>= (λ h. entries >>= (λ es. Ok (record { head = h; entries = es })))))) ≡ Ok lock → head ≡ Ok lock.head
by_steps (Ok v) (Ok c) (Ok h) (Ok es) lock reads = ap (λ r. Ok (head_given h r)) reads
by_steps (Err e) creator head entries lock reads = absurd cc
by_steps (Ok v) (Err e) head entries lock reads = absurd cc
by_steps (Ok v) (Ok c) (Err e) entries lock reads = absurd cc
by_steps (Ok v) (Ok c) (Ok h) (Err e) lock reads = absurd cc

head_read : (document : Members) (lock : LockValue) → lock_in document ≡ Ok lock → head_by document ≡ Ok lock.head
unfolding lock_in
head_read document lock reads =
    by_steps (lock_version_in (field (codes "lock-version") document)) (created_by_in (field (codes "created-by") document)) (head_by document)
    (entries_in (field (codes "packages") document)) lock reads

same_head : (before after : Members) → HoldSameLock before after → head_by before ≡ head_by after
same_head before after holds =
    λ i. head_in (holds.head (codes "environments") refl i) (holds.head (codes "requires-python") refl i) (holds.head (codes "extras") refl i)
    (holds.head (codes "dependency-groups") refl i) (holds.head (codes "default-groups") refl i)

abbrev read_head : HeadValue → Result HeadValue LockError → HeadValue
read_head other (Ok head) = head
read_head other (Err error) = other

heads_same : (before after : Members) (one other : LockValue) → HoldSameLock before after → lock_in before ≡ Ok one → lock_in after ≡ Ok other → one.head ≡ other.head
heads_same before after one other holds reads too =
    ap (read_head one.head) (sym (head_read before one reads) ∙ same_head before after holds ∙ head_read after other too)

-- ---- the entries

abbrev entry_of : Data → EntryValue
entry_of d = entry_by (entry_in d)

entries_are : (place : ℕ) (ds : Items) (entries : List EntryValue) → entries_of place ds ≡ Ok entries → entries ≡ map entry_of (values_of ds)
entries_are place no_items entries reads = sym (ap given reads)
entries_are place (item d ds) entries reads =
    let first = first_of place d ds entries reads in
    first.whole ∙ (λ i. entry_by (sym first.reads i) ∷ entries_are (suc place) ds first.more first.others i)

entries_moved : (before after : Members) (one other : LockValue) → HoldSameLock before after → lock_in before ≡ Ok one → lock_in after ≡ Ok other → IsPermutation one.entries other.entries
entries_moved before after one other holds reads too =
    subst (λ es. IsPermutation es other.entries) (sym (are before one reads))
    (subst (IsPermutation (map entry_of (same.entries_of before))) (sym (are after other too))
    (IsPermutation-map entry_of (same.entries_of before) (same.entries_of after) holds.entries))
  where
    are : (document : Members) (lock : LockValue) → lock_in document ≡ Ok lock → lock.entries ≡ map entry_of (same.entries_of document)
    are document lock reads = entries_are 1 (items_at (field (codes "packages") document)) lock.entries (lock_read document lock reads)

-- ---- the first states

rise : (n : ℕ) (es : List EntryValue) → Rises n (map (λ e. e.0) (enumerate_from n es))
rise n [] = tt
rise n (e ∷ es) = (omega arith, rise (n + 1) es)

unnumbered : (n : ℕ) (es : List EntryValue) → map (λ e. e.1) (enumerate_from n es) ≡ es
unnumbered n [] = refl
unnumbered n (e ∷ es) = ap (λ more. e ∷ more) (unnumbered (n + 1) es)

locks_pick_same : (one other : LockValue) (environment : EnvironmentValue) (tags : List _) (edits : List Edit) → one.head ≡ other.head → IsPermutation one.entries other.entries
    → AllByRecursion (λ edit. leaves_entries edit ≡ true) edits → PickSame (after_edits edits (first one environment tags)) (after_edits edits (first other environment tags))
locks_pick_same one other environment tags edits head moved leave =
    let start = first one environment tags in
    let es = enumerate_from 1 other.entries in
    let last = length other.entries in
    let state = after_edits edits start in
    let stay = entries_stay edits leave start in
    let starts : with_others start es last ≡ first other environment tags = λ i. first (record { head = head i; entries = other.entries }) environment tags in
    subst (PickSame state) (sym (all_kept edits leave start es last) ∙ ap (after_edits edits) starts)
    (others_pick_same state es last
    (subst (λ (numbered : List (ℕ × EntryValue)). Rises 1 (map (λ e. e.0) numbered)) (sym stay) (rise 1 one.entries))
    (rise 1 other.entries)
    (subst (λ plain. IsPermutation plain (map (λ e. e.1) es)) (sym (ap (map (λ e. e.1)) stay ∙ unnumbered 1 one.entries))
    (subst (IsPermutation one.entries) (sym (unnumbered 1 other.entries)) moved)))

pub unchanged_pick_same : (old new : ComparedValue) (before after : Members) (environment : EnvironmentValue) (tags : List _) (edits : List Edit) → IsRead old before → IsRead new after → lock_changes old new ≡ []
    → AllByRecursion (λ edit. leaves_entries edit ≡ true) edits → PickSame (after_edits edits (first old.lock environment tags)) (after_edits edits (first new.lock environment tags))
unchanged_pick_same old new before after environment tags edits one other none leave =
    let holds = told old new before after one other none in
    locks_pick_same old.lock new.lock environment tags edits
    (heads_same before after old.lock new.lock holds one.reads other.reads)
    (entries_moved before after old.lock new.lock holds one.reads other.reads) leave
