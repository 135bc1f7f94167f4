-- Lemmas on an entry that is written at a place, or taken out of it.
use Rattle.std.proofs.Common.{[], ◌≡◌, ℕ, suc, zero, ◌+◌, ◌-◌, ◌<◌, ◌≤◌, ◌∙◌, Bool, true, false, List, ◌∷◌, ◌++◌, length, get_or, set, Option, Some, None, IsSome, is_some, Ok, ap, sym, refl, eq-eqb, arith, map, IfSome, Result, Err, OnErr, option_map, subst}
use Rattle.std.proofs.lemmas.Bool.{ne_eqb, lt-ltb}
use Rattle.pylock_readers.specs.Entry.{EntryValue}
use Rattle.pylock_core.specs.Session.State.{in_rows, State, entry_at, if_entry, with_entry, with_next, without, Rises}
use Rattle.pylock_core.proofs.Lemmas.Tables.Names.{length_more, no_number, text_other, same_number}
use Rattle.std.specs.Global.{Global}
use Rattle.std.specs.Str.{bytes_eq}
use Rattle.std.specs.declared.vec.Vec.{Vec}
use Rattle.std.proofs.lemmas.List.{get_or-map, get_or_default, length-map}
use Rattle.pylock_core.specs.Inner.Tables.Index.{AllRise, HaveCapacity, list_at, moved}
use Rattle.pylock_core.specs.Inner.Tables.Names.{HasCapacity, IsNames, is_at, members_under, number_named}
use Rattle.pylock_core.specs.Inner.Parts.{AreLiving, AreMembers, IsIndex, IsNamed, OfBoth, OfRows}
use Rattle.pylock_core.specs.Inner.Tables.Rows.{passes}
use Rattle.pylock_readers.specs.Lock.{HeadValue}
use Rattle.pylock_core.specs.Session.Judgement.{IndexKey, OfTags, and_head, entry_reads, head_reads, keys, numbers_where}
use Rattle.pylock_core.specs.declared.session.tables.names.Names.{Names}
use Rattle.pylock_core.specs.declared.session.tables.rows.Row.{Row}
use Rattle.pylock_core.proofs.Lemmas.Tables.Index.{lists_are, rises_from, head_rises, moved_head, passing, passing_rises, passing_set}
use Rattle.pylock_core.proofs.Lemmas.Tables.Rows.{same_length as same_length_rows, of_rows_at, in_rows_wider}

-- ---- the entries of the state

pub in_rows_push : {X : Type 0} (m n : ℕ) (rows : List (Option X)) (x : X) → n ≡ m + length rows → in_rows m (rows ++ Some x ∷ []) ≡ in_rows m rows ++ (n, x) ∷ []
in_rows_push m n [] x here = let same : m ≡ n = omega (arith, here) in ap (λ k. (k, x) ∷ []) same
in_rows_push m n (None ∷ rows) x here = in_rows_push (m + 1) n rows x (omega (arith, here))
in_rows_push m n (Some y ∷ rows) x here = ap (λ rest. (m, y) ∷ rest) (in_rows_push (m + 1) n rows x (omega (arith, here)))

pub with_entry_below : (n m : ℕ) (x : EntryValue) (rows : List (Option EntryValue)) → n < m → with_entry n x (in_rows m rows) ≡ in_rows m rows
with_entry_below n m x [] below = refl
with_entry_below n m x (None ∷ rows) below = with_entry_below n (m + 1) x rows (omega arith)
with_entry_below n m x (Some e ∷ rows) below =
    rw (ne_eqb n m (λ same. omega (arith, same, below))) (ap (λ rest. (m, e) ∷ rest) (with_entry_below n (m + 1) x rows (omega arith)))

pub with_entry_row : (n m k : ℕ) (x : EntryValue) (rows : List (Option EntryValue)) → n ≡ m + k → IsSome (get_or rows k None) → in_rows m (set rows k (Some x)) ≡ with_entry n x (in_rows m rows)
with_entry_row n m k x [] here there = let e : false ≡ true = there in cc
with_entry_row n m zero x (None ∷ rows) here there = let e : false ≡ true = there in cc
with_entry_row n m zero x (Some e ∷ rows) here there =
    sym (rw (eq-eqb n m (omega (arith, here))) (ap (λ rest. (m, x) ∷ rest) (with_entry_below n (m + 1) x rows (omega (arith, here)))))
with_entry_row n m (suc k) x (None ∷ rows) here there = with_entry_row n (m + 1) k x rows (omega (arith, here)) there
with_entry_row n m (suc k) x (Some e ∷ rows) here there =
    sym (rw (ne_eqb n m (λ same. omega (arith, same, here))) (ap (λ rest. (m, e) ∷ rest) (sym (with_entry_row n (m + 1) k x rows (omega (arith, here)) there))))

without_below : (n m : ℕ) (rows : List (Option EntryValue)) → n < m → without n (in_rows m rows) ≡ in_rows m rows
without_below n m [] below = refl
without_below n m (None ∷ rows) below = without_below n (m + 1) rows (omega arith)
without_below n m (Some e ∷ rows) below =
    rw (ne_eqb n m (λ same. omega (arith, same, below))) (ap (λ rest. (m, e) ∷ rest) (without_below n (m + 1) rows (omega arith)))

pub without_row : (n m k : ℕ) (rows : List (Option EntryValue)) → n ≡ m + k → in_rows m (set rows k None) ≡ without n (in_rows m rows)
without_row n m k [] here = refl
without_row n m zero (None ∷ rows) here = sym (without_below n (m + 1) rows (omega (arith, here)))
without_row n m zero (Some e ∷ rows) here = rw (eq-eqb n m (omega (arith, here))) (sym (without_below n (m + 1) rows (omega (arith, here))))
without_row n m (suc k) (None ∷ rows) here = without_row n (m + 1) k rows (omega (arith, here))
without_row n m (suc k) (Some e ∷ rows) here =
    rw (ne_eqb n m (λ same. omega (arith, same, here))) (ap (λ rest. (m, e) ∷ rest) (without_row n (m + 1) k rows (omega (arith, here))))

pub entry_at_below : (n m : ℕ) (rows : List (Option EntryValue)) → n < m → entry_at n (in_rows m rows) ≡ None
entry_at_below n m [] below = refl
entry_at_below n m (None ∷ rows) below = entry_at_below n (m + 1) rows (omega arith)
entry_at_below n m (Some e ∷ rows) below = rw (ne_eqb n m (λ same. omega (arith, same, below))) (entry_at_below n (m + 1) rows (omega arith))

pub entry_at_row : (n m k : ℕ) (rows : List (Option EntryValue)) → n ≡ m + k → entry_at n (in_rows m rows) ≡ get_or rows k None
entry_at_row n m k [] here = refl
entry_at_row n m zero (None ∷ rows) here = entry_at_below n (m + 1) rows (omega (arith, here))
entry_at_row n m zero (Some e ∷ rows) here = rw (eq-eqb n m (omega (arith, here)))
entry_at_row n m (suc k) (None ∷ rows) here = entry_at_row n (m + 1) k rows (omega (arith, here))
entry_at_row n m (suc k) (Some e ∷ rows) here = rw (ne_eqb n m (λ same. omega (arith, same, here))) (entry_at_row n (m + 1) k rows (omega (arith, here)))

pub entry_at_zero : (rows : List (Option EntryValue)) → entry_at 0 (in_rows 1 rows) ≡ None
entry_at_zero rows = entry_at_below 0 1 rows (omega arith)

pub next_state : (state : State) (entry : EntryValue) (es more : List (Option EntryValue)) → state.entries ≡ in_rows 1 es → state.last ≡ length es → length es < 100000 → more ≡ es ++ Some entry ∷ []
    → with_next entry state ≡ Ok (record state { entries = in_rows 1 more; last = length more })
next_state state entry es more entries last capacity is =
    let less : state.last < 100000 = omega (arith, last, capacity) in
    let longer : state.last + 1 ≡ length more = omega (arith, last, ap length is, length_more es (Some entry)) in
    let rows : state.entries ++ (state.last + 1, entry) ∷ [] ≡ in_rows 1 more =
    ap (λ front. front ++ (state.last + 1, entry) ∷ []) entries ∙ sym (in_rows_push 1 (state.last + 1) es entry (omega (arith, last))) ∙ ap (in_rows 1) (sym is) in
    rw (lt-ltb state.last 100000 less) (ap Ok (λ i. record state { entries = rows i; last = longer i }))

-- ---- numbers

pub entry_at_past : (n m : ℕ) (rows : List (Option EntryValue)) → m + length rows ≤ n → entry_at n (in_rows m rows) ≡ None
entry_at_past n m [] past = refl
entry_at_past n m (None ∷ rows) past = entry_at_past n (m + 1) rows (omega arith)
entry_at_past n m (Some e ∷ rows) past = rw (ne_eqb n m (λ same. omega (arith, same, past))) (entry_at_past n (m + 1) rows (omega arith))

-- what stands in the rows under a number
pub ruleset row_numbers = (entry_at_row, entry_at_below, entry_at_past)

-- an entry that is there
pub place_there : (n : ℕ) (rows : List (Option EntryValue)) → IsSome (entry_at n (in_rows 1 rows)) → (0 < n) × IsSome (get_or rows (n - 1) None)
place_there zero rows there = let none : entry_at 0 (in_rows 1 rows) ≡ None = entry_at_zero rows in let e : ◌≡◌ {A = Bool} false true = sym (ap is_some none) ∙ there in cc
place_there (suc n) rows there =
    let row : entry_at (suc n) (in_rows 1 rows) ≡ get_or rows (suc n - 1) None = entry_at_row (suc n) 1 (suc n - 1) rows (omega arith) in
    (omega arith, sym (ap is_some row) ∙ there)

pub accepted_there : (n : ℕ) (state next made : State) → IsSome (entry_at n state.entries) → made ≡ next → if_entry n state next ≡ Ok made
accepted_there n state next made there same = rw there (ap Ok (sym same))

pub old_at : {X : Type 0} (xs : List (Option X)) (k : ℕ) (x : Option X) → k < length xs → x ≡ get_or xs k x → x ≡ get_or xs k None
old_at xs k x within is = is ∙ sym (get_or_default xs k None x within)

pub both_at : (names : Names) (es : List (Option EntryValue)) (rs : List (Option Row)) (k : ℕ) (e : Option EntryValue) (r : Option Row) → OfRows (IsNamed names) es rs → k < length es
    → e ≡ get_or es k e → r ≡ get_or rs k r → OfBoth (IsNamed names) e r
both_at names es rs k e r h within is_e is_r =
    let even = same_length_rows (IsNamed names) es rs h in
    subst (λ o. OfBoth (IsNamed names) o r) (sym (old_at es k e within is_e))
    (subst (λ o. OfBoth (IsNamed names) (get_or es k None) o) (sym (old_at rs k r (omega (arith, within, even)) is_r)) (of_rows_at (IsNamed names) es rs k _ _ h refl refl))

-- the number of the name of a row
abbrev pub row_name : Option Row → Option ℕ
row_name r = option_map (λ row. row.name) r

pub row_below : (names : Names) (e : Option EntryValue) (r : Option Row) → IsNames names → OfBoth (IsNamed names) e r → IfSome (row_name r) (λ n. n < length names.policies.items)
row_below names None None is h = tt
row_below names None (Some r) is h = absurd h
row_below names (Some e) None is h = absurd h
row_below names (Some e) (Some r) is h = is.numbering.below e.name r.name h.name

pub row_capacity : (names : Names) (r : Option Row) → IfSome r (λ row. HasCapacity names row.name) → IfSome (row_name r) (λ n. HasCapacity names n)
row_capacity names None h = tt
row_capacity names (Some r) h = h

-- what stands under the number of a name
under : (names : Names) (es : List (Option EntryValue)) (q : List ℕ) (n : ℕ) → AreMembers names es → number_named names q ≡ Some n
    → list_at names.members.items n ≡ passing (λ entry. bytes_eq q entry.name) 1 es
under names es q n members has = sym (ap (members_under names.members.items) has) ∙ members q

pub row_rises : (names : Names) (es : List (Option EntryValue)) (e : Option EntryValue) (r : Option Row) → AreMembers names es → OfBoth (IsNamed names) e r
    → IfSome (row_name r) (λ n. Rises 0 (list_at names.members.items n))
row_rises names es None None members h = tt
row_rises names es None (Some r) members h = absurd h
row_rises names es (Some e) None members h = absurd h
row_rises names es (Some e) (Some r) members h =
    subst (Rises 0) (sym (under names es e.name r.name members h.name)) (rises_from 1 0 _ (omega arith) (passing_rises (λ entry. bytes_eq e.name entry.name) 1 es))

-- ---- the entries of each name

-- by the number of its name, whether an entry has a name
named_at : (names : Names) (q : List ℕ) (n : ℕ) (e : Option EntryValue) (r : Option Row) → IsNames names → number_named names q ≡ Some n → OfBoth (IsNamed names) e r
    → is_at n (row_name r) ≡ passes (λ entry. bytes_eq q entry.name) e
named_at names q n None None is has h = refl
named_at names q n None (Some r) is has h = absurd h
named_at names q n (Some e) None is has h = absurd h
named_at names q n (Some e) (Some r) is has h = sym (same_number names is q e.name n r.name has h.name)

-- a name with no number is no entry's
unnamed : (names : Names) (q : List ℕ) (e : Option EntryValue) (r : Option Row) → number_named names q ≡ None → OfBoth (IsNamed names) e r
    → passes (λ entry. bytes_eq q entry.name) e ≡ false
unnamed names q None r none h = refl
unnamed names q (Some e) None none h = absurd h
unnamed names q (Some e) (Some r) none h =
    text_other q e.name (λ same. no_number (number_named names q) r.name none (ap (number_named names) same ∙ h.name))

pub members_written : (names new : Names) (es : List (Option EntryValue)) (place number : ℕ) (old e : Option EntryValue) (gone r : Option Row)
    → IsNames names → old ≡ get_or es place None → OfBoth (IsNamed names) old gone → OfBoth (IsNamed names) e r → AreMembers names es → number ≡ 1 + place → place < length es
    → ((q : List ℕ) → number_named new q ≡ number_named names q)
    → ((n : ℕ) → list_at new.members.items n ≡ moved number (is_at n (row_name gone)) (is_at n (row_name r)) (list_at names.members.items n))
    → AreMembers new (set es place e)
members_written names new es place number old e gone r is there before after members here within numbers moves q =
    ap (members_under new.members.items) (numbers q) ∙ by (number_named names q) refl
    ∙ ap (λ o. moved number (passes test o) (passes test e) (passing test 1 es)) there
    ∙ sym (passing_set test number 1 place es e here within)
  where
    test : EntryValue → Bool
    test entry = bytes_eq q entry.name

    by : (found : Option ℕ) → number_named names q ≡ found → members_under new.members.items found ≡ moved number (passes test old) (passes test e) (passing test 1 es)
    by None has =
        let nothing : passing test 1 es ≡ [] = sym (members q) ∙ ap (members_under names.members.items) has in
        sym (ap (λ b. moved number b (passes test e) (passing test 1 es)) (unnamed names q old gone has before)
        ∙ ap (λ b. moved number false b (passing test 1 es)) (unnamed names q e r has after) ∙ nothing)
    by (Some n) has =
        moves n
        ∙ ap (λ b. moved number b (is_at n (row_name r)) (list_at names.members.items n)) (named_at names q n old gone is has before)
        ∙ ap (λ b. moved number (passes test old) b (list_at names.members.items n)) (named_at names q n e r is has after)
        ∙ ap (moved number (passes test old) (passes test e)) (under names es q n members has)

-- ---- the index

pub index_rises : (lists : List (Vec ℕ Global)) (head : HeadValue) (es : List (Option EntryValue)) → IsIndex lists head es → AllRise lists
index_rises lists head es index = λ i within.
    let key : IndexKey = get_or keys i OfTags in
    subst (Rises 0) (sym (ap (λ ls. get_or ls i []) index ∙ get_or-map (λ k. and_head (head_reads k head) (passing (entry_reads k) 1 es)) keys i OfTags [] within))
    (head_rises (head_reads key head) _ (passing_rises (entry_reads key) 1 es))

pub index_written : (lists new : List (Vec ℕ Global)) (was is : List Bool) (head : HeadValue) (es : List (Option EntryValue)) (place number : ℕ) (old e : Option EntryValue)
    → IsIndex lists head es → old ≡ get_or es place None
    → was ≡ map (λ key. passes (entry_reads key) old) keys → is ≡ map (λ key. passes (entry_reads key) e) keys → number ≡ 1 + place → place < length es
    → length new ≡ length lists
    → ((i : ℕ) → i < 14 → list_at new i ≡ moved number (get_or was i false) (get_or is i false) (list_at lists i))
    → IsIndex new head (set es place e)
index_written lists new was is head es place number old e index there is_was is_is here within long changed =
    lists_are new keys (λ k. and_head (head_reads k head) (passing (entry_reads k) 1 (set es place e))) OfTags (long ∙ fourteen) (λ i less. by i less (get_or keys i OfTags) refl)
  where
    fourteen : length lists ≡ 14
    fourteen = sym (length-map lists (λ (list : Vec ℕ Global). list.items)) ∙ ap length index

    by : (i : ℕ) → i < 14 → (key : IndexKey) → get_or keys i OfTags ≡ key → list_at new i ≡ and_head (head_reads key head) (passing (entry_reads key) 1 (set es place e))
    by i less key is_key =
        let before : get_or was i false ≡ passes (entry_reads key) old =
        ap (λ bs. get_or bs i false) is_was ∙ get_or-map (λ k. passes (entry_reads k) old) keys i OfTags false less ∙ ap (λ k. passes (entry_reads k) old) is_key in
        let after : get_or is i false ≡ passes (entry_reads key) e =
        ap (λ bs. get_or bs i false) is_is ∙ get_or-map (λ k. passes (entry_reads k) e) keys i OfTags false less ∙ ap (λ k. passes (entry_reads k) e) is_key in
        let list : list_at lists i ≡ and_head (head_reads key head) (passing (entry_reads key) 1 es) =
        ap (λ ls. get_or ls i []) index ∙ get_or-map (λ k. and_head (head_reads k head) (passing (entry_reads k) 1 es)) keys i OfTags [] less
        ∙ ap (λ k. and_head (head_reads k head) (passing (entry_reads k) 1 es)) is_key in
        changed i less
        ∙ ap (λ b. moved number b (get_or is i false) (list_at lists i)) before
        ∙ ap (λ b. moved number (passes (entry_reads key) old) b (list_at lists i)) after
        ∙ ap (moved number (passes (entry_reads key) old) (passes (entry_reads key) e)) list
        ∙ sym (moved_head (passes (entry_reads key) old) (passes (entry_reads key) e) (head_reads key head) number (passing (entry_reads key) 1 es) (omega (arith, here)))
        ∙ ap (and_head (head_reads key head)) (ap (λ o. moved number (passes (entry_reads key) o) (passes (entry_reads key) e) (passing (entry_reads key) 1 es)) there
        ∙ sym (passing_set (entry_reads key) number 1 place es e here within))

-- what reads nothing needs no room
pub no_capacity : (lists : List (Vec ℕ Global)) → HaveCapacity lists (map (λ key. passes (entry_reads key) None) keys) 0
no_capacity lists = λ i d above less comes.
    let none : get_or (map (λ key. passes (entry_reads key) None) keys) i false ≡ false = get_or-map (λ key. passes (entry_reads key) None) keys i OfTags false less in
    let some : get_or (map (λ key. passes (entry_reads key) None) keys) i false ≡ true = comes in
    let e : ◌≡◌ {A = Bool} false true = sym none ∙ some in cc

-- what is written at the end
pub set_last : {X : Type 0} (xs : List X) (x y : X) → set (xs ++ x ∷ []) (length xs) y ≡ xs ++ y ∷ []
set_last [] x y = refl
set_last (z ∷ zs) x y = ap (λ rest. z ∷ rest) (set_last zs x y)

pub members_wider : (names : Names) (es : List (Option EntryValue)) → AreMembers names es → AreMembers names (es ++ None ∷ [])
members_wider names es members q = members q ∙ ap (numbers_where (λ entry. bytes_eq q entry.name)) (sym (in_rows_wider 1 es))

pub index_wider : (lists : List (Vec ℕ Global)) (head : HeadValue) (es : List (Option EntryValue)) → IsIndex lists head es → IsIndex lists head (es ++ None ∷ [])
index_wider lists head es index =
    index ∙ ap (λ rows. map (λ key. and_head (head_reads key head) (numbers_where (entry_reads key) rows)) keys) (sym (in_rows_wider 1 es))

pub living_wider : (numbers : List ℕ) (es : List (Option EntryValue)) → AreLiving numbers es → AreLiving numbers (es ++ None ∷ [])
living_wider numbers es living = living ∙ ap (numbers_where (λ entry. true)) (sym (in_rows_wider 1 es))

-- the numbers of what stands, after one row is written
pub living_rises : (numbers : List ℕ) (es : List (Option EntryValue)) → AreLiving numbers es → Rises 0 numbers
living_rises numbers es living = subst (Rises 0) (sym living) (rises_from 1 0 (passing (λ (entry : EntryValue). true) 1 es) (omega arith) (passing_rises (λ entry. true) 1 es))

stands_there : (e : Option EntryValue) → passes (λ entry. true) e ≡ is_some e
stands_there None = refl
stands_there (Some e) = refl

pub living_written : (old new : List ℕ) (es : List (Option EntryValue)) (place n : ℕ) (was is : Bool) (e : Option EntryValue) → AreLiving old es
    → is_some (get_or es place None) ≡ was → is_some e ≡ is → n ≡ 1 + place → place < length es → new ≡ moved n was is old → AreLiving new (set es place e)
living_written old new es place n was is e living with_standings stands at within moves =
    moves ∙ ap (moved n was is) living
    ∙ ap (λ b. moved n b is (passing (λ entry. true) 1 es)) (sym with_standings ∙ sym (stands_there (get_or es place None)))
    ∙ ap (λ b. moved n (passes (λ entry. true) (get_or es place None)) b (passing (λ entry. true) 1 es)) (sym stands ∙ sym (stands_there e))
    ∙ sym (passing_set (λ entry. true) n 1 place es e at within)

-- what holds in any case holds on Err
pub on_err : {A E P : Type 0} (r : Result A E) → P → OnErr r P
on_err (Ok x) p = tt
on_err (Err e) p = p
