-- The entries that were read from the elements that came, and the lock of them.
use Rattle.std.proofs.Common.{◌≡◌, ◌∙◌, ℕ, suc, ◌+◌, ◌≤◌, ◌<◌, ltb, ltb-true, ltb-false, lt-ltb, le-ltb, Bool, true, false, is_some, codes, List, [], ◌∷◌, ◌++◌, length, Option, Some, None, Result, Ok, Err, ap, refl, sym, arith}
use Rattle.std.proofs.lemmas.Bool.{ne_eqb, true≢false}
use Rattle.toml.specs.Data.{Data, Items, no_items, item, Members, array, push_item}
use Rattle.pytext.specs.Results.{◌>>=◌}
use Rattle.pytoml.specs.Members.{with_elements}
use Rattle.pytoml.proofs.Others.{with_elements-other, with_member-there}
use Rattle.pylock_readers.specs.Entry.{EntryValue}
use Rattle.pylock_readers.specs.Entry.Reading.{entry_in}
use Rattle.pylock_readers.specs.Inner.Elements.{entries_read, lock_after, lock_with}
use Rattle.pylock_readers.specs.Lock.Packages.{HasRead, PackagesValue, entries_or}
use Rattle.pylock_readers.specs.Lock.Reading.{at_position, entries_in, entries_of, item_count, lock_in, most_entries, capacity_for}
use Rattle.pylock_readers.specs.declared.error.EntryError.{EntryError}
use Rattle.pylock_readers.specs.declared.error.LockError.{LockError}
use Rattle.pylock_readers.specs.declared.error.LockError.TheVariants.{Entry}

pub count_push : (items : Items) (d : Data) → item_count (push_item items d) ≡ suc (item_count items)
count_push no_items d = refl
count_push (item x xs) d = ap suc (count_push xs d)

-- one more behind others
abbrev then_one : ℕ → Data → Result (List EntryValue) LockError → Result (List EntryValue) LockError
then_one place d read = read >>= (λ es. at_position place (entry_in d) >>= (λ e. Ok (es ++ e ∷ [])))

cons_one : (e : EntryValue) (place : ℕ) (d : Data) (rest : Result (List EntryValue) LockError)
    → (then_one place d rest >>= (λ es. Ok (e ∷ es))) ≡ then_one place d (rest >>= (λ es. Ok (e ∷ es)))
cons_one e place d (Err refusal) = refl
cons_one e place d (Ok es) = by (at_position place (entry_in d))
  where
    by : (one : Result EntryValue LockError) → ((one >>= (λ x. Ok (es ++ x ∷ []))) >>= (λ xs. Ok (e ∷ xs))) ≡ (one >>= (λ x. Ok (e ∷ es ++ x ∷ [])))
    by (Ok x) = refl
    by (Err refusal) = refl

entries_push : (place : ℕ) (items : Items) (d : Data) → entries_of place (push_item items d) ≡ then_one (place + item_count items) d (entries_of place items)
entries_push place no_items d =
    let same : place ≡ place + 0 = omega arith in
    by (at_position place (entry_in d)) ∙ ap (λ n. then_one n d (Ok [])) same
  where
    by : (one : Result EntryValue LockError) → (one >>= (λ e. Ok (e ∷ []))) ≡ (one >>= (λ e. Ok ([] ++ e ∷ [])))
    by (Ok e) = refl
    by (Err refusal) = refl
entries_push place (item x xs) d =
    let next : suc place + item_count xs ≡ place + suc (item_count xs) = omega arith in
    by (at_position place (entry_in x)) (entries_push (suc place) xs d ∙ ap (λ n. then_one n d (entries_of (suc place) xs)) next)
  where
    by : (one : Result EntryValue LockError) → entries_of (suc place) (push_item xs d) ≡ then_one (place + suc (item_count xs)) d (entries_of (suc place) xs)
        → (one >>= (λ e. entries_of (suc place) (push_item xs d) >>= (λ es. Ok (e ∷ es))))
        ≡ then_one (place + suc (item_count xs)) d (one >>= (λ e. entries_of (suc place) xs >>= (λ es. Ok (e ∷ es))))
    by (Err refusal) more = refl
    by (Ok e) more = ap (λ r. r >>= (λ es. Ok (e ∷ es))) more ∙ cons_one e (place + suc (item_count xs)) d (entries_of (suc place) xs)

entries_len : (place : ℕ) (items : Items) (es : List EntryValue) → entries_of place items ≡ Ok es → length es ≡ item_count items
entries_len place no_items es is = ap (λ r. len_of r) (sym is)
  where
    len_of : Result (List EntryValue) LockError → ℕ
    len_of (Ok xs) = length xs
    len_of (Err refusal) = 0
entries_len place (item x xs) es is = by (at_position place (entry_in x)) (entries_of (suc place) xs) (entries_len (suc place) xs) is
  where
    len_of : Result (List EntryValue) LockError → ℕ
    len_of (Ok ys) = length ys
    len_of (Err refusal) = 0

    never : (refusal : LockError) → Err refusal ≡ Ok es → length es ≡ suc (item_count xs)
    never refusal e = cc

    by : (one : Result EntryValue LockError) (rest : Result (List EntryValue) LockError) → ((ys : List EntryValue) → rest ≡ Ok ys → length ys ≡ item_count xs)
        → (one >>= (λ e. rest >>= (λ ys. Ok (e ∷ ys)))) ≡ Ok es → length es ≡ suc (item_count xs)
    by (Err refusal) rest more e = never refusal e
    by (Ok y) (Err refusal) more e = never refusal e
    by (Ok y) (Ok ys) more e = ap len_of (sym e) ∙ ap suc (more ys refl)

-- ---- one more element

-- so many elements came, and this was read of them
abbrev pub read_so : ℕ → List EntryValue → Option EntryError → PackagesValue
read_so count es r = record { count = count; entries = es; refusal = r }

-- past one too many nothing changes
pub passed : (count : ℕ) (es : List EntryValue) (r : Option EntryError) (taken : Items) (d : Data) → most_entries < count → HasRead (read_so count es r) taken → HasRead (read_so count es r) (push_item taken d)
passed count es r taken d over h = record {
  many = λ few. absurd (never few);
  too_many = λ more. over;
  within = h.within;
  read = λ few. absurd (never few);
}
  where
    never : item_count (push_item taken d) ≤ most_entries → ⊥
    never few =
        let fewer : item_count taken ≤ most_entries = omega (arith, few, count_push taken d) in
        omega (arith, fewer, h.many fewer, over)

-- it is counted, and what was read with it is this
counted : (count : ℕ) (es now : List EntryValue) (r after : Option EntryError) (taken : Items) (d : Data) → count ≤ most_entries
    → (item_count taken < most_entries → count ≡ item_count taken → entries_of 1 (push_item taken d) ≡ entries_or now after)
    → HasRead (read_so count es r) taken → HasRead (read_so (count + 1) now after) (push_item taken d)
counted count es now r after taken d capacity read h = record {
  many = λ few. omega (arith, count_push taken d, h.many (omega (arith, few, count_push taken d)));
  too_many = λ more. by (ltb most_entries (item_count taken)) refl more;
  within = omega (arith, capacity);
  read = λ few. let less : item_count taken < most_entries = omega (arith, few, count_push taken d) in read less (h.many (omega (arith, less)));
}
  where
    by : (b : Bool) → ltb most_entries (item_count taken) ≡ b → most_entries < item_count (push_item taken d) → most_entries < count + 1
    by true is more = let over : most_entries < count = h.too_many (ltb-true most_entries (item_count taken) is) in absurd (omega (arith, over, capacity))
    by false is more =
        let few : item_count taken ≤ most_entries = ltb-false most_entries (item_count taken) is in
        omega (arith, h.many few, more, count_push taken d)

-- it is one too many
pub counted_last : (count : ℕ) (es : List EntryValue) (r : Option EntryError) (taken : Items) (d : Data) → count ≤ most_entries → most_entries < count + 1
    → HasRead (read_so count es r) taken → HasRead (read_so (count + 1) es r) (push_item taken d)
counted_last count es r taken d capacity over h =
    counted count es es r r taken d capacity (λ less same. absurd (omega (arith, less, same, over))) h

-- it is behind one that is refused
pub counted_refused : (count : ℕ) (es : List EntryValue) (r : Option EntryError) (taken : Items) (d : Data) → count ≤ most_entries → is_some r ≡ true
    → HasRead (read_so count es r) taken → HasRead (read_so (count + 1) es r) (push_item taken d)
counted_refused count es None taken d capacity refused h = absurd (true≢false (sym refused))
counted_refused count es (Some e) taken d capacity refused h =
    counted count es es (Some e) (Some e) taken d capacity
    (λ less same. entries_push 1 taken d ∙ ap (then_one (1 + item_count taken) d) (h.read (omega (arith, less)))) h

-- it is an entry
pub counted_entry : (count : ℕ) (es : List EntryValue) (r : Option EntryError) (taken : Items) (d : Data) (e : EntryValue) → count + 1 ≤ most_entries → is_some r ≡ false
    → entry_in d ≡ Ok e → HasRead (read_so count es r) taken → HasRead (read_so (count + 1) (es ++ e ∷ []) r) (push_item taken d)
counted_entry count es (Some x) taken d e capacity none is h = absurd (true≢false none)
counted_entry count es None taken d e capacity none is h =
    counted count es (es ++ e ∷ []) None None taken d (omega (arith, capacity))
    (λ less same.
    entries_push 1 taken d ∙ ap (then_one (1 + item_count taken) d) (h.read (omega (arith, less)))
    ∙ ap (λ one. at_position (1 + item_count taken) one >>= (λ x. Ok (es ++ x ∷ []))) is) h

-- or the first that is refused
pub counted_refusal : (count : ℕ) (es : List EntryValue) (r : Option EntryError) (taken : Items) (d : Data) (e : EntryError) → count + 1 ≤ most_entries → is_some r ≡ false
    → entry_in d ≡ Err e → HasRead (read_so count es r) taken → HasRead (read_so (count + 1) es (Some e)) (push_item taken d)
counted_refusal count es (Some x) taken d e capacity none is h = absurd (true≢false none)
counted_refusal count es None taken d e capacity none is h =
    counted count es es None (Some e) taken d (omega (arith, capacity))
    (λ less same.
    let read = h.read (omega (arith, less)) in
    let place : 1 + item_count taken ≡ length es + 1 = omega (arith, entries_len 1 taken es read) in
    entries_push 1 taken d ∙ ap (then_one (1 + item_count taken) d) read
    ∙ ap (λ one. at_position (1 + item_count taken) one >>= (λ x. Ok (es ++ x ∷ []))) is
    ∙ ap (λ n. Err (Entry n e)) place) h

-- ---- all elements of a list

-- these, and others behind them
abbrev pub appended : Items → Items → Items
appended front no_items = front
appended front (item d ds) = appended (push_item front d) ds

appended_item : (d : Data) (front rest : Items) → appended (item d front) rest ≡ item d (appended front rest)
appended_item d front no_items = refl
appended_item d front (item x xs) = appended_item d (push_item front x) xs

pub appended_all : (items : Items) → appended no_items items ≡ items
appended_all no_items = refl
appended_all (item d ds) = appended_item d no_items ds ∙ ap (item d) (appended_all ds)

-- ---- the lock

pub read_is : (count : ℕ) (es : List EntryValue) (r : Option EntryError) (taken : Items) → HasRead (read_so count es r) taken → (capacity_for taken >>= (λ capacity. entries_of 1 taken)) ≡ entries_read (read_so count es r)
read_is count es r taken h = by (ltb most_entries (item_count taken)) refl
  where
    by : (b : Bool) → ltb most_entries (item_count taken) ≡ b → (capacity_for taken >>= (λ capacity. entries_of 1 taken)) ≡ entries_read (read_so count es r)
    by true is = rw (is, lt-ltb most_entries count (h.too_many (ltb-true most_entries (item_count taken) is)))
    by false is =
        let few : item_count taken ≤ most_entries = ltb-false most_entries (item_count taken) is in
        rw (is, le-ltb most_entries count (omega (arith, few, h.many few))) (h.read few)

-- a document with elements of `packages` has the head that it has without them
pub with_is : (document : Members) (d : Data) (ds : Items) → lock_in (with_elements (codes "packages") (item d ds) document)
    ≡ lock_with document (capacity_for (item d ds) >>= (λ capacity. entries_of 1 (item d ds)))
unfolding lock_in lock_with entries_in
with_is document d ds =
    rw (
      with_elements-other (codes "lock-version") (codes "packages") (item d ds) document refl,
      with_elements-other (codes "created-by") (codes "packages") (item d ds) document refl,
      with_elements-other (codes "environments") (codes "packages") (item d ds) document refl,
      with_elements-other (codes "requires-python") (codes "packages") (item d ds) document refl,
      with_elements-other (codes "extras") (codes "packages") (item d ds) document refl,
      with_elements-other (codes "dependency-groups") (codes "packages") (item d ds) document refl,
      with_elements-other (codes "default-groups") (codes "packages") (item d ds) document refl,
      with_member-there (codes "packages") (array (item d ds)) document,
    )

-- the lock of a document and of the elements that were taken from it
pub after_is : (document : Members) (p : PackagesValue) (taken : Items) → HasRead p taken
    → lock_in (with_elements (codes "packages") taken document) ≡ lock_after document p
unfolding lock_in lock_with
after_is document p no_items h = let none : p.count ≡ 0 = h.many (omega arith) in rw none
after_is document p (item d ds) h =
    rw (ne_eqb p.count 0 (λ none. some none)) (with_is document d ds ∙ ap (lock_with document) (read_is p.count p.entries p.refusal (item d ds) h))
  where
    some : p.count ≡ 0 → ⊥
    some none = by (ltb most_entries (item_count (item d ds))) refl
      where
        by : (b : Bool) → ltb most_entries (item_count (item d ds)) ≡ b → ⊥
        by true is = omega (arith, none, h.too_many (ltb-true most_entries (item_count (item d ds)) is))
        by false is = omega (arith, none, h.many (ltb-false most_entries (item_count (item d ds)) is))
