-- Lemmas on the lists of numbers under the keys, and on the numbers of what reads a key.
use Rattle.std.proofs.Common.{[], ◌≡◌, ℕ, suc, zero, ◌+◌, ◌<◌, ◌≤◌, ◌∙◌, Bool, true, false, ◌&&◌, ◌||◌, IsTrue, nat_eq, nat_lt, List, ◌∷◌, map, length, ext_get_or, get_or, set, replicate, Some, is_some, cond, vec_len, vec_capacity, subst, ap, sym, refl, eq-eqb, arith, Option, None}
use Rattle.std.specs.Global.{Global}
use Rattle.std.specs.declared.vec.Vec.{Vec}
use Rattle.std.specs.List.{insert, remove, filter}
use Rattle.std.proofs.lemmas.Bool.{ne_eqb, lt-ltb, le-ltb, ltb-true, ltb-false, eqb-true, eqb-false}
use Rattle.std.proofs.lemmas.List.{get_or-map, get_or-set_same, get_or-set_other, length-map, set-get_or}
use Rattle.pymark_core.specs.Marker.Keys.{reads}
use Rattle.pymark_core.specs.Marker.Reading.{MarkerValue}
use Rattle.pylock_readers.specs.Entry.{EntryValue}
use Rattle.pylock_core.specs.Inner.Tables.Index.{put_in, take_out, moved, list_at, numbers_in, read_by}
use Rattle.pylock_core.specs.Session.State.{Rises, NumbersRise, State, in_rows, is_among}
use Rattle.pylock_readers.specs.Lock.{HeadValue}
use Rattle.pylock_core.specs.Session.Judgement.{IndexKey, Marked, OfTags, and_head, entry_reads, head_reads, is_python, keys, marker_reads, numbers_where, readers, touched}
use Rattle.pylock_readers.specs.Entry.Kinds.{is_any}
use Rattle.std.specs.Str.{bytes_eq}
use Rattle.pymark_core.specs.Change.{changed_key}
use Rattle.pylock_core.specs.Inner.Tables.Rows.{passes}
use Rattle.pylock_core.specs.declared.edit.Edit.{Edit}
use Rattle.pylock_core.specs.declared.edit.Edit.TheVariants as edit
use Rattle.pylock_core.specs.Session.Names.{names_key}

-- ---- one list

pub rises_from : (n m : ℕ) (xs : List ℕ) → m ≤ n → Rises n xs → Rises m xs
rises_from n m [] le r = tt
rises_from n m (x ∷ xs) le r = (omega (arith, r.0), r.1)

pub at_least : (n : ℕ) (xs : List ℕ) (j : ℕ) → Rises n xs → j < length xs → n ≤ get_or xs j 0
at_least n [] j r within = absurd (omega arith)
at_least n (x ∷ xs) zero r within = r.0
at_least n (x ∷ xs) (suc j) r within =
    let later : x + 1 ≤ get_or xs j 0 = at_least (x + 1) xs j r.1 (omega arith) in
    omega (arith, r.0)

pub in_order : (n : ℕ) (xs : List ℕ) → Rises n xs → (i j : ℕ) → i ≤ j → j < length xs → get_or xs i 0 ≤ get_or xs j 0
in_order n [] r i j le within = absurd (omega arith)
in_order n (x ∷ xs) r zero zero le within = omega arith
in_order n (x ∷ xs) r zero (suc j) le within =
    let later : x + 1 ≤ get_or xs j 0 = at_least (x + 1) xs j r.1 (omega arith) in
    omega arith
in_order n (x ∷ xs) r (suc i) zero le within = absurd (omega arith)
in_order n (x ∷ xs) r (suc i) (suc j) le within = in_order (x + 1) xs r.1 i j (omega arith) (omega arith)

pub put_in_at : (x : ℕ) (xs : List ℕ) (i : ℕ) → i ≤ length xs → ((k : ℕ) → k < i → get_or xs k 0 < x)
    → ((k : ℕ) → i ≤ k → k < length xs → x < get_or xs k 0) → insert xs i x ≡ put_in x xs
put_in_at x [] zero le below above = refl
put_in_at x [] (suc i) le below above = absurd (omega arith)
put_in_at x (y ∷ ys) zero le below above =
    let first : x < y = above 0 (omega arith) (omega arith) in
    sym (rw (le-ltb y x (omega arith), ne_eqb x y (λ same. omega arith)))
put_in_at x (y ∷ ys) (suc i) le below above =
    let first : y < x = below 0 (omega arith) in
    ap (λ rest. y ∷ rest)
    (put_in_at x ys i (omega arith) (λ k less. below (suc k) (omega arith)) (λ k le within. above (suc k) (omega arith) (omega arith)))
    ∙ sym (rw (lt-ltb y x first))

pub put_in_there : (n x : ℕ) (xs : List ℕ) (i : ℕ) → Rises n xs → i < length xs → get_or xs i 0 ≡ x → xs ≡ put_in x xs
put_in_there n x [] i r within is = absurd (omega arith)
put_in_there n x (y ∷ ys) zero r within is = sym (rw (le-ltb y x (omega (arith, is)), eq-eqb x y (sym is)))
put_in_there n x (y ∷ ys) (suc i) r within is =
    let later : y + 1 ≤ get_or ys i 0 = at_least (y + 1) ys i r.1 (omega arith) in
    let less : y < x = omega (arith, is) in
    ap (λ rest. y ∷ rest) (put_in_there (y + 1) x ys i r.1 (omega arith) is) ∙ sym (rw (lt-ltb y x less))

pub take_out_at : (n x : ℕ) (xs : List ℕ) (i : ℕ) → Rises n xs → i < length xs → get_or xs i 0 ≡ x → remove xs i ≡ take_out x xs
take_out_at n x [] i r within is = absurd (omega arith)
take_out_at n x (y ∷ ys) zero r within is = sym (rw (eq-eqb x y (sym is)))
take_out_at n x (y ∷ ys) (suc i) r within is =
    let later : y + 1 ≤ get_or ys i 0 = at_least (y + 1) ys i r.1 (omega arith) in
    let less : y < x = omega (arith, is) in
    ap (λ rest. y ∷ rest) (take_out_at (y + 1) x ys i r.1 (omega arith) is) ∙ sym (rw (ne_eqb x y (λ same. omega arith)))

pub take_out_absent : (x : ℕ) (xs : List ℕ) (i : ℕ) → i ≤ length xs → ((k : ℕ) → k < i → get_or xs k 0 < x)
    → ((k : ℕ) → i ≤ k → k < length xs → x < get_or xs k 0) → xs ≡ take_out x xs
take_out_absent x [] i le below above = refl
take_out_absent x (y ∷ ys) zero le below above =
    let first : x < y = above 0 (omega arith) (omega arith) in
    ap (λ rest. y ∷ rest) (take_out_absent x ys zero (omega arith) (λ k less. absurd (omega arith)) (λ k le within. above (suc k) (omega arith) (omega arith)))
    ∙ sym (rw (ne_eqb x y (λ same. omega arith)))
take_out_absent x (y ∷ ys) (suc i) le below above =
    let first : y < x = below 0 (omega arith) in
    ap (λ rest. y ∷ rest)
    (take_out_absent x ys i (omega arith) (λ k less. below (suc k) (omega arith)) (λ k le within. above (suc k) (omega arith) (omega arith)))
    ∙ sym (rw (ne_eqb x y (λ same. omega arith)))

-- ---- the lists

-- what holds below n and at n holds below n + 1
pub below_more : (P : ℕ → Type 0) (n k : ℕ) → k < n + 1 → ((j : ℕ) → j < n → P j) → P n → P k
below_more P n k less below at =
    elim (nat_lt k n) as (λ b. nat_lt k n ≡ b → P k) [
      | true ↦ λ is. below k (ltb-true k n is)
      | false ↦ λ is. let above : n ≤ k = ltb-false k n is in let same : n ≡ k = omega arith in subst P same at
    ] refl

map_set : (lists : List (Vec ℕ Global)) (i : ℕ) (v : Vec ℕ Global) → map (λ list. list.items) (set lists i v) ≡ set (map (λ list. list.items) lists) i v.items
map_set [] i v = refl
map_set (x ∷ xs) zero v = refl
map_set (x ∷ xs) (suc i) v = ap (λ rest. x.items ∷ rest) (map_set xs i v)

pub list_at_same : (lists : List (Vec ℕ Global)) (key : ℕ) (v : Vec ℕ Global) → key < length lists → list_at (set lists key v) key ≡ v.items
list_at_same lists key v within =
    ap (λ all. get_or all key []) (map_set lists key v)
    ∙ get_or-set_same (map (λ list. list.items) lists) key v.items [] (omega (arith, length-map lists (λ (list : Vec ℕ Global). list.items)))

pub list_at_other : (lists : List (Vec ℕ Global)) (key k : ℕ) (v : Vec ℕ Global) → (k ≡ key → ⊥) → list_at (set lists key v) k ≡ list_at lists k
list_at_other lists key k v ne =
    ap (λ all. get_or all k []) (map_set lists key v) ∙ get_or-set_other (map (λ list. list.items) lists) key k v.items [] ne

-- at each key either the list that was written or the one that was there
pub set_list : (P : List ℕ → Type 0) (lists : List (Vec ℕ Global)) (key k : ℕ) (v : Vec ℕ Global) → key < length lists
    → (k ≡ key → P v.items) → ((k ≡ key → ⊥) → P (list_at lists k)) → P (list_at (set lists key v) k)
set_list P lists key k v within at others =
    elim (nat_eq k key) as (λ b. nat_eq k key ≡ b → P (list_at (set lists key v) k)) [
      | true ↦ λ is. let same : k ≡ key = eqb-true k key is in
          let place : key ≡ k = sym same in
          subst (λ (j : ℕ). P (list_at (set lists key v) j)) place (subst P (sym (list_at_same lists key v within)) (at same))
      | false ↦ λ is. let ne : (k ≡ key → ⊥) = eqb-false k key is in
          subst P (sym (list_at_other lists key k v ne)) (others ne)
    ] refl

-- a list that keeps its numbers
pub kept_at : (lists : List (Vec ℕ Global)) (key k : ℕ) (v w : Vec ℕ Global) → key < length lists → v.items ≡ (get_or lists key w).items
    → list_at (set lists key v) k ≡ list_at lists k
kept_at lists key k v w within kept =
    let here : v.items ≡ list_at lists key = kept ∙ sym (get_or-map (λ (list : Vec ℕ Global). list.items) lists key w [] within) in
    set_list (λ ns. ns ≡ list_at lists k) lists key k v within
    (λ same. here ∙ ap (list_at lists) (sym same)) (λ ne. refl)

pub kept_set : (lists : List (Vec ℕ Global)) (key : ℕ) (v w : Vec ℕ Global) → key < length lists → v.items ≡ (get_or lists key w).items
    → numbers_in (set lists key v) ≡ numbers_in lists
kept_set lists key v w within kept =
    let here : v.items ≡ list_at lists key = kept ∙ sym (get_or-map (λ (list : Vec ℕ Global). list.items) lists key w [] within) in
    map_set lists key v ∙ ap (set (numbers_in lists) key) here ∙ set-get_or (numbers_in lists) key []

-- a list that is changed, where those below it were
pub changed_at : (lists old : List (Vec ℕ Global)) (key k : ℕ) (v w : Vec ℕ Global) (f : ℕ → List ℕ → List ℕ) → key < length lists → k < key + 1
    → v.items ≡ f key (get_or lists key w).items → list_at lists key ≡ list_at old key
    → (k < key → list_at lists k ≡ f k (list_at old k)) → list_at (set lists key v) k ≡ f k (list_at old k)
changed_at lists old key k v w f within less changed same below =
    let here : v.items ≡ f key (list_at old key) =
    changed ∙ ap (f key) (sym (get_or-map (λ (list : Vec ℕ Global). list.items) lists key w [] within) ∙ same) in
    set_list (λ ns. ns ≡ f k (list_at old k)) lists key k v within
    (λ at. subst (λ (j : ℕ). v.items ≡ f j (list_at old j)) (sym at) here) (λ ne. below (omega arith))

-- each list up to one that has room now
pub capacity_at : (lists : List (Vec ℕ Global)) (key k : ℕ) (v d : Vec ℕ Global) (comes : ℕ → Bool) → key < length lists → k < key + 1
    → (IsTrue (comes key) → vec_len v < vec_capacity v)
    → (k < key → IsTrue (comes k) → vec_len (get_or lists k d) < vec_capacity (get_or lists k d))
    → IsTrue (comes k) → vec_len (get_or (set lists key v) k d) < vec_capacity (get_or (set lists key v) k d)
capacity_at lists key k v d comes within less now below =
    below_more (λ j. (j < key → IsTrue (comes j) → vec_len (get_or lists j d) < vec_capacity (get_or lists j d)) → IsTrue (comes j) → vec_len (get_or (set lists key v) j d) < vec_capacity (get_or (set lists key v) j d)) key k less
    (λ j under known come. rw (get_or-set_other lists key j v d (λ same. omega arith)) (known under come))
    (λ known come. rw (get_or-set_same lists key v d within) (now come))
    below

-- ---- keys

or_false : (b : Bool) → b || false ≡ b
or_false true = refl
or_false false = refl

-- the one marker of an entry, or none
pub entry_by_one : (entry : EntryValue) (marker : MarkerValue) → entry.marker ≡ Some marker → (ks : List IndexKey)
    → map (read_by (marker ∷ []) (is_some entry.requires_python) (is_any entry.wheels)) ks ≡ map (λ key. entry_reads key entry) ks
entry_by_one entry marker is [] = refl
entry_by_one entry marker is (OfTags ∷ ks) = ap (λ rest. is_any entry.wheels ∷ rest) (entry_by_one entry marker is ks)
entry_by_one entry marker is (Marked key ∷ ks) =
    let same : read_by (marker ∷ []) (is_some entry.requires_python) (is_any entry.wheels) (Marked key) ≡ entry_reads (Marked key) entry =
    ap (λ b. is_python key && is_some entry.requires_python || b) (or_false (reads key marker.tree) ∙ ap (marker_reads key) (sym is)) in
    ap (λ b. b ∷ map (read_by (marker ∷ []) (is_some entry.requires_python) (is_any entry.wheels)) ks) same
    ∙ ap (λ rest. entry_reads (Marked key) entry ∷ rest) (entry_by_one entry marker is ks)

-- the lists, where each is known by its place
pub lists_are : {K : Type 0} (lists : List (Vec ℕ Global)) (ks : List K) (f : K → List ℕ) (k : K) → length lists ≡ length ks
    → ((i : ℕ) → i < length ks → list_at lists i ≡ f (get_or ks i k)) → numbers_in lists ≡ map f ks
lists_are lists ks f k long at =
    let one = length-map lists (λ (list : Vec ℕ Global). list.items) in
    let two = length-map ks f in
    ext_get_or [] (numbers_in lists) (map f ks) (omega (arith, one, two, long))
    (λ i within. at i (omega (arith, within, one, long)) ∙ sym (get_or-map f ks i k [] (omega (arith, within, one, long))))

-- among empty lists there is none under any key that has a number
pub none_listed : (count key : ℕ) → get_or (replicate {A = List ℕ} count []) key [] ≡ []
none_listed zero key = refl
none_listed (suc count) zero = refl
none_listed (suc count) (suc key) = none_listed count key

-- the lists of the head alone
head_alone : (b : Bool) → moved 0 false b [] ≡ and_head b []
head_alone true = refl
head_alone false = refl

pub head_lists : (lists empty : List (Vec ℕ Global)) (head : HeadValue) (read none : List Bool) → length lists ≡ 14
    → ((key : ℕ) → list_at empty key ≡ []) → read ≡ map (λ key. head_reads key head) keys → ((key : ℕ) → key < 14 → get_or none key false ≡ false)
    → ((key : ℕ) → key < 14 → list_at lists key ≡ moved 0 (get_or none key false) (get_or read key false) (list_at empty key))
    → numbers_in lists ≡ map (λ key. and_head (head_reads key head) []) keys
head_lists lists empty head read none long nothing is_read is_none changed =
    lists_are lists keys (λ key. and_head (head_reads key head) []) OfTags long (λ i within.
    changed i within ∙ rw (is_none i within, nothing i) (ap (λ b. moved 0 false b []) (ap (λ bs. get_or bs i false) is_read ∙ get_or-map (λ key. head_reads key head) keys i OfTags false within))
    ∙ head_alone (head_reads (get_or keys i OfTags) head))

-- ---- a number that moves

pub moved_same : (n : ℕ) (b : Bool) (ns : List ℕ) → ns ≡ moved n b b ns
moved_same n true ns = refl
moved_same n false ns = refl

-- into one list and out of another
pub moved_two : (n was is entry : ℕ) (old mid new : List ℕ) → (was ≡ is → ⊥) → mid ≡ cond (nat_eq n is) (moved entry false true old) old
    → new ≡ cond (nat_eq n was) (moved entry true false mid) mid → new ≡ moved entry (nat_eq n was) (nat_eq n is) old
moved_two n was is entry old mid new differ one two =
    two ∙ ap (λ m. cond (nat_eq n was) (moved entry true false m) m) one
    ∙ by (nat_eq n was) (nat_eq n is) (λ a b. differ (sym (eqb-true n was a) ∙ eqb-true n is b))
  where
    by : (x y : Bool) → (x ≡ true → y ≡ true → ⊥)
        → cond x (moved entry true false (cond y (moved entry false true old) old)) (cond y (moved entry false true old) old) ≡ moved entry x y old
    by true true apart = absurd (apart refl refl)
    by true false apart = refl
    by false true apart = refl
    by false false apart = refl

-- the numbers of the rows that pass, n the first row's
abbrev pub passing : {X : Type 0} → (X → Bool) → ℕ → List (Option X) → List ℕ
passing test n rows = numbers_where test (in_rows n rows)

-- with a row before them
abbrev pub with_row : Bool → ℕ → List ℕ → List ℕ
with_row true n ns = n ∷ ns
with_row false n ns = ns

pub passing_row : {X : Type 0} (test : X → Bool) (n : ℕ) (row : Option X) (rows : List (Option X))
    → passing test n (row ∷ rows) ≡ with_row (passes test row) n (passing test (n + 1) rows)
passing_row test n None rows = refl
passing_row test n (Some x) rows = by (test x)
  where
    by : (b : Bool) → map (λ e. e.0) (cond b ((n, x) ∷ filter (λ e. test e.1) (in_rows (n + 1) rows)) (filter (λ e. test e.1) (in_rows (n + 1) rows))) ≡ with_row b n (passing test (n + 1) rows)
    by true = refl
    by false = refl

rises_row : (b : Bool) (n : ℕ) (ns : List ℕ) → Rises (n + 1) ns → Rises n (with_row b n ns)
rises_row true n ns r = (omega arith, r)
rises_row false n ns r = rises_from (n + 1) n ns (omega arith) r

pub passing_rises : {X : Type 0} (test : X → Bool) (n : ℕ) (rows : List (Option X)) → Rises n (passing test n rows)
passing_rises test n [] = tt
passing_rises test n (row ∷ rows) =
    subst (Rises n) (sym (passing_row test n row rows)) (rises_row (passes test row) n (passing test (n + 1) rows) (passing_rises test (n + 1) rows))

-- a number below all others
put_in_front : (n m : ℕ) (ns : List ℕ) → n < m → Rises m ns → put_in n ns ≡ n ∷ ns
put_in_front n m [] less r = refl
put_in_front n m (x ∷ xs) less r = rw (le-ltb x n (omega (arith, r.0)), ne_eqb n x (λ same. omega (arith, r.0)))

take_out_front : (n : ℕ) (ns : List ℕ) → take_out n (n ∷ ns) ≡ ns
take_out_front n ns = rw (eq-eqb n n refl)

-- the row itself changes
moved_here : (was is : Bool) (n : ℕ) (ns : List ℕ) → Rises (n + 1) ns → with_row is n ns ≡ moved n was is (with_row was n ns)
moved_here true true n ns r = refl
moved_here true false n ns r = sym (take_out_front n ns)
moved_here false true n ns r = sym (put_in_front n (n + 1) ns (omega arith) r)
moved_here false false n ns r = refl

-- a later row changes
pub moved_later : (was is b : Bool) (n m : ℕ) (ns : List ℕ) → m < n → moved n was is (with_row b m ns) ≡ with_row b m (moved n was is ns)
moved_later true true true n m ns less = refl
moved_later true false true n m ns less = rw (ne_eqb n m (λ same. omega arith))
moved_later false true true n m ns less = rw (lt-ltb m n less)
moved_later false false true n m ns less = refl
moved_later was is false n m ns less = refl

-- a row is written
pub passing_set : {X : Type 0} (test : X → Bool) (n m k : ℕ) (rows : List (Option X)) (row : Option X) → n ≡ m + k → k < length rows
    → passing test m (set rows k row) ≡ moved n (passes test (get_or rows k None)) (passes test row) (passing test m rows)
passing_set test n m k [] row here within = absurd (omega arith)
passing_set test n m zero (old ∷ rows) row here within =
    let same : n ≡ m = omega (arith, here) in
    passing_row test m row rows
    ∙ moved_here (passes test old) (passes test row) m (passing test (m + 1) rows) (passing_rises test (m + 1) rows)
    ∙ ap (λ j. moved j (passes test old) (passes test row) (with_row (passes test old) m (passing test (m + 1) rows))) (sym same)
    ∙ ap (moved n (passes test old) (passes test row)) (sym (passing_row test m old rows))
passing_set test n m (suc k) (old ∷ rows) row here within =
    passing_row test m old (set rows k row)
    ∙ ap (with_row (passes test old) m) (passing_set test n (m + 1) k rows row (omega (arith, here)) (omega arith))
    ∙ sym (moved_later (passes test (get_or rows k None)) (passes test row) (passes test old) n m (passing test (m + 1) rows) (omega (arith, here)))
    ∙ ap (moved n (passes test (get_or rows k None)) (passes test row)) (sym (passing_row test m old rows))

-- the head's number stands before all
pub moved_head : (was is b : Bool) (n : ℕ) (ns : List ℕ) → 0 < n → and_head b (moved n was is ns) ≡ moved n was is (and_head b ns)
moved_head true true true n ns less = refl
moved_head true false true n ns less = sym (rw (ne_eqb n 0 (λ same. omega (arith, less, same))))
moved_head false true true n ns less = sym (rw (lt-ltb 0 n less))
moved_head false false true n ns less = refl
moved_head was is false n ns less = refl

pub head_rises : (b : Bool) (ns : List ℕ) → Rises 1 ns → Rises 0 (and_head b ns)
head_rises true ns r = (omega arith, r)
head_rises false ns r = rises_from 1 0 ns (omega arith) r

-- ---- numbers increase

pub numbers_rise : {X : Type 0} (n : ℕ) (rows : List (Option X)) → Rises n (map (λ e. e.0) (in_rows n rows))
numbers_rise n [] = tt
numbers_rise n (None ∷ rows) = rises_from (n + 1) n (map (λ e. e.0) (in_rows (n + 1) rows)) (omega arith) (numbers_rise (n + 1) rows)
numbers_rise n (Some x ∷ rows) = (omega arith, numbers_rise (n + 1) rows)

-- of increasing numbers those that pass increase
filtered_row : {X : Type 0} (b : Bool) (n : ℕ) (e : ℕ × X) (es : List (ℕ × X)) → n ≤ e.0 → Rises (e.0 + 1) (map (λ e. e.0) es) → Rises n (map (λ e. e.0) (cond b (e ∷ es) es))
filtered_row true n e es le r = (le, r)
filtered_row false n e es le r = rises_from (e.0 + 1) n (map (λ e. e.0) es) (omega (arith, le)) r

pub filtered_rise : {X : Type 0} (test : X → Bool) (n : ℕ) (es : List (ℕ × X)) → Rises n (map (λ e. e.0) es) → Rises n (numbers_where test es)
filtered_rise test n [] r = tt
filtered_rise test n (e ∷ es) r = filtered_row (test e.1) n e (filter (λ e. test e.1) es) r.0 (filtered_rise test (e.0 + 1) es r.1)

pub readers_rise : (key : IndexKey) (state : State) → NumbersRise state → Rises 0 (readers key state)
readers_rise key state rise = head_rises (head_reads key state.head) (numbers_where (entry_reads key) state.entries) (filtered_rise (entry_reads key) 1 state.entries rise)

pub touched_rises : (edit : Edit) (state : State) → NumbersRise state → Rises 0 (touched edit state)
touched_rises (edit.Environment change) state rise = readers_rise (Marked (changed_key change)) state rise
touched_rises (edit.Names change names) state rise = readers_rise (Marked (names_key change)) state rise
touched_rises (edit.Tags tags) state rise = readers_rise OfTags state rise
touched_rises (edit.Add entry) state rise = (omega arith, tt)
touched_rises (edit.Put n entry) state rise = (omega arith, tt)
touched_rises (edit.Del n) state rise = tt
touched_rises (edit.Policy name policy) state rise =
    rises_from 1 0 (touched (edit.Policy name policy) state) (omega arith) (filtered_rise (λ entry. bytes_eq name entry.name) 1 state.entries rise)
touched_rises (edit.Policies names policy) state rise =
    rises_from 1 0 (touched (edit.Policies names policy) state) (omega arith) (filtered_rise (λ entry. is_among names.items entry.name) 1 state.entries rise)
