-- Lemmas on what an edit judges again: what reads the thing that changes, and nothing else.
use Rattle.std.proofs.Common.{[], ◌≡◌, ℕ, suc, zero, ◌+◌, ◌-◌, ◌<◌, ◌≤◌, ◌∙◌, Bool, true, false, nat_eq, List, ◌∷◌, ◌++◌, append_assoc, map, length, get_or, Option, Some, None, IsSome, cond, subst, ap, sym, refl, eq-eqb, arith}
use Rattle.std.specs.Global.{Global}
use Rattle.std.specs.declared.vec.Vec.{Vec}
use Rattle.std.proofs.lemmas.Bool.{ne_eqb}
use Rattle.std.proofs.lemmas.List.{get_or-map, length-map}
use Rattle.pymark_core.specs.Environment.{EnvironmentValue}
use Rattle.pymark_core.specs.Marker.Keys.{key_number}
use Rattle.pymark_core.specs.declared.marker.keys.Key.TheVariants.{Of, Extras, Groups}
use Rattle.pymark_core.specs.declared.variable.Var.TheVariants as var
use Rattle.pywheel_core.specs.Tag.{TagValue}
use Rattle.pylock_readers.specs.Entry.{EntryValue}
use Rattle.pylock_core.specs.Inner.Judging.Judgement.{AllStand, after_head, fresh_row, fresh_standing, has_head, row_anew, rows_anew, standing_of, standings_anew}
use Rattle.pylock_core.specs.Inner.Tables.Rows.{AllWithin, row_stood, with_standings, with_rows, passes}
use Rattle.pylock_core.specs.Inner.Tables.Conditions.{IsUnder}
use Rattle.pylock_core.specs.Inner.Tables.Index.{list_at}
use Rattle.pylock_core.specs.Session.State.{Rises}
use Rattle.pylock_core.specs.Inner.Tables.Names.{policy_at}
use Rattle.pylock_core.specs.Inner.Parts.{AreNumbered, IsJudged, IsNamed, IsSession, OfBoth, OfRows, state_of}
use Rattle.pylock_core.specs.Inner.Answering.Steps.{has_number}
use Rattle.pylock_core.specs.Session.Judgement.{IndexKey, VerdictValue, Marked, OfTags, and_head, entry_reads, head_reads, keys, readers, verdict_of}
use Rattle.pylock_core.specs.Session.Steps.{standing}
use Rattle.pylock_core.specs.declared.answer.Standing.{Standing}
use Rattle.pylock_core.specs.declared.edit.Policy.{Policy}
use Rattle.pylock_core.specs.declared.session.parts.Parts.{Parts}
use Rattle.pylock_core.specs.declared.session.tables.rows.Row.{Row}
use Rattle.pylock_core.proofs.Lemmas.Tables.Index.{passing, passing_rises, passing_row, with_row}
use Rattle.pylock_core.proofs.Lemmas.Tables.Rows.{of_rows_and, some_within, of_rows_at, with_each_length, with_each_at, of_rows_places, stood_twice}
use Rattle.pylock_core.proofs.Lemmas.Parts.{NamedAndJudged, session_even}

-- ---- the numbers of the rows that pass

row_stands : (P : ℕ → Type 0) (b : Bool) (m : ℕ) (ns : List ℕ) → (b ≡ true → P m) → ((i : ℕ) → i < length ns → P (get_or ns i 0))
    → (i : ℕ) → i < length (with_row b m ns) → P (get_or (with_row b m ns) i 0)
row_stands P true m ns here later zero within = here refl
row_stands P true m ns here later (suc i) within = later i (omega arith)
row_stands P false m ns here later i within = later i within

some_passes : {X : Type 0} (test : X → Bool) (row : Option X) → passes test row ≡ true → IsSome row
some_passes test None is = let e : false ≡ true = is in cc
some_passes test (Some x) is = refl

-- at its place each has a row
abbrev StandsFrom : {X : Type 0} → ℕ → List (Option X) → ℕ → Type 0
StandsFrom m rows n = (m ≤ n) × IsSome (get_or rows (n - m) None)

passing_stands : {X : Type 0} (test : X → Bool) (m : ℕ) (rows : List (Option X)) (i : ℕ) → i < length (passing test m rows) → StandsFrom m rows (get_or (passing test m rows) i 0)
passing_stands test m [] i within = absurd (omega arith)
passing_stands test m (row ∷ rows) i within =
    (subst (λ (ns : List ℕ). (i : ℕ) → i < length ns → StandsFrom m (row ∷ rows) (get_or ns i 0)) (sym (passing_row test m row rows))
    (row_stands (StandsFrom m (row ∷ rows)) (passes test row) m (passing test (m + 1) rows)
    (λ is. let zeroth : 0 ≡ m - m = omega arith in (omega arith, subst (λ (k : ℕ). IsSome (get_or (row ∷ rows) k None)) zeroth (some_passes test row is)))
    (λ j less. later (get_or (passing test (m + 1) rows) j 0) (passing_stands test (m + 1) rows j less)))) i within
  where
    later : (n : ℕ) → StandsFrom (m + 1) rows n → StandsFrom m (row ∷ rows) n
    later n stands =
        let more : suc (n - (m + 1)) ≡ n - m = omega (arith, stands.0) in
        (omega (arith, stands.0), subst (λ (k : ℕ). IsSome (get_or (row ∷ rows) k None)) more stands.1)

pub all_stand : (test : EntryValue → Bool) (entries : List (Option EntryValue)) (numbers : List ℕ) → numbers ≡ passing test 1 entries → AllStand entries numbers
all_stand test entries numbers is =
    subst (AllStand entries) (sym is) (λ i within. let stands = passing_stands test 1 entries i within in (omega (arith, stands.0), stands.1))

not_among : (n m : ℕ) (ns : List ℕ) → n < m → Rises m ns → has_number ns n ≡ false
not_among n m [] less r = refl
not_among n m (x ∷ xs) less r = rw (ne_eqb n x (λ same. omega (arith, r.0, same))) (not_among n (x + 1) xs (omega (arith, r.0)) r.1)

among_first : (b : Bool) (n m : ℕ) (ns : List ℕ) → n ≡ m → Rises (m + 1) ns → has_number (with_row b m ns) n ≡ b
among_first true n m ns same r = rw (eq-eqb n m same) refl
among_first false n m ns same r = not_among n (m + 1) ns (omega (arith, same)) r

among_later : (b : Bool) (n m : ℕ) (ns : List ℕ) → m < n → has_number (with_row b m ns) n ≡ has_number ns n
among_later true n m ns less = rw (ne_eqb n m (λ same. omega (arith, same))) refl
among_later false n m ns less = refl

pub among_passing : {X : Type 0} (test : X → Bool) (n m k : ℕ) (rows : List (Option X)) → n ≡ m + k → has_number (passing test m rows) n ≡ passes test (get_or rows k None)
among_passing test n m k [] is = refl
among_passing test n m zero (row ∷ rows) is =
    ap (λ ns. has_number ns n) (passing_row test m row rows) ∙ among_first (passes test row) n m (passing test (m + 1) rows) (omega (arith, is)) (passing_rises test (m + 1) rows)
among_passing test n m (suc k) (row ∷ rows) is =
    ap (λ ns. has_number ns n) (passing_row test m row rows) ∙ among_later (passes test row) n m (passing test (m + 1) rows) (omega (arith, is))
    ∙ among_passing test n (m + 1) k rows (omega (arith, is))

pub row_within : (parts : Parts) (k : ℕ) → IsSession parts → IsSome (get_or parts.entries.items k None) → k < length parts.rows.items
row_within parts k s there = omega (arith, some_within parts.entries.items k there, session_even parts s)

-- one of what is left goes to the end of what is made
pub one_more : {X : Type 0} (front more rest all : List X) (x : X) {new : List X} → new ≡ front ++ x ∷ [] → more ≡ x ∷ rest → front ++ more ≡ all → new ++ rest ≡ all
one_more front more rest all x made is whole =
    let regrouped : (front ++ x ∷ []) ++ rest ≡ front ++ x ∷ rest = simp append_assoc in
    ap (λ ys. ys ++ rest) made ∙ regrouped ∙ ap (λ ys. front ++ ys) (sym is) ∙ whole

-- ---- rows put at their places

places_within : {X : Type 0} (f : ℕ → X) (entries : List (Option EntryValue)) (count : ℕ) (numbers : List ℕ)
    → count ≡ length entries → AllStand entries numbers → AllWithin count (map (λ n. (n - 1, f n)) numbers)
places_within f entries count [] even stand = tt
places_within f entries count (n ∷ ns) even stand =
    let here : n - 1 < length entries = some_within entries (n - 1) (stand 0 (omega arith)).1 in
    (omega (arith, here, even), places_within f entries count ns even (λ i within. stand (suc i) (omega arith)))

pub all_within : (environment : EnvironmentValue) (tags : List TagValue) (policy : ℕ → Policy) (entries : List (Option EntryValue)) (rows : List (Option Row)) (count : ℕ) (numbers : List ℕ)
    → count ≡ length entries → AllStand entries numbers → AllWithin count (map (fresh_row environment tags policy entries rows) numbers)
all_within environment tags policy entries rows count numbers even stand =
    places_within (λ n. row_anew environment tags policy (get_or entries (n - 1) None) (get_or rows (n - 1) None)) entries count numbers even stand

-- ---- rows that are judged again where their entry passes

abbrev anew : (EntryValue → Bool) → EnvironmentValue → List TagValue → (ℕ → Policy) → Option EntryValue → Option Row → Option Row
anew test environment tags policy e r = cond (passes test e) (row_anew environment tags policy e r) r

-- such rows
abbrev pub AreAnew : Parts → (EntryValue → Bool) → EnvironmentValue → List TagValue → (ℕ → Policy) → List (Option Row) → Type 0
AreAnew parts test environment tags policy rows =
    (length rows ≡ length parts.rows.items)
    × ((k : ℕ) → k < length parts.rows.items
    → get_or rows k None ≡ anew test environment tags policy (get_or parts.entries.items k None) (get_or parts.rows.items k None))

-- by rows that are put at the places
pub with_rows_anew : (parts : Parts) (test : EntryValue → Bool) (environment : EnvironmentValue) (tags : List TagValue) (policy : ℕ → Policy) (rows : List (Option Row))
    → rows ≡ with_rows (rows_anew parts test environment tags policy) parts.rows.items → AreAnew parts test environment tags policy rows
with_rows_anew parts test environment tags policy rows is =
    let es = parts.entries.items in
    let rs = parts.rows.items in
    let numbers = passing test 1 es in
    let new : ℕ → Option Row = λ k. row_anew environment tags policy (get_or es k None) (get_or rs k None) in
    subst (AreAnew parts test environment tags policy) (sym is) (
      with_each_length (λ row old. row) (map (fresh_row environment tags policy es rs) numbers) rs,
      λ k within. with_each_at (λ row old. row) (λ x r. refl) new numbers rs k within (λ i less. (all_stand test es numbers refl i less).0)
          ∙ ap (λ b. cond b (new k) (get_or rs k None)) (among_passing test (k + 1) 1 k es (omega arith)),
    )

-- by standings that are put at the places, in another environment
standing_row : (parts : Parts) (test : EntryValue → Bool) (environment : EnvironmentValue) (e : Option EntryValue) (r : Option Row)
    → OfBoth (IsJudged parts.environment parts.tags parts.names.policies.items) e r
    → cond (passes test e) (row_stood (standing_of environment e) r) r ≡ anew test environment parts.tags (policy_at parts.names.policies.items) e r
standing_row parts test environment None None h = refl
standing_row parts test environment None (Some r) h = absurd h
standing_row parts test environment (Some e) None h = absurd h
standing_row parts test environment (Some e) (Some r) h =
    ap (λ best. cond (test e) (Some (record r { verdict = record { standing = standing e environment; best = best } })) (Some r)) (ap (λ v. v.best) h)

pub with_standings_anew : (parts : Parts) (test : EntryValue → Bool) (environment : EnvironmentValue) (rows : List (Option Row)) → IsSession parts
    → rows ≡ with_standings (standings_anew parts test environment) parts.rows.items
    → AreAnew parts test environment parts.tags (policy_at parts.names.policies.items) rows
with_standings_anew parts test environment rows s is =
    let es = parts.entries.items in
    let rs = parts.rows.items in
    let numbers = passing test 1 es in
    let new : ℕ → Standing = λ k. standing_of environment (get_or es k None) in
    subst (AreAnew parts test environment parts.tags (policy_at parts.names.policies.items)) (sym is) (
      with_each_length row_stood (map (fresh_standing environment es) numbers) rs,
      λ k within. with_each_at row_stood stood_twice new numbers rs k within (λ i less. (all_stand test es numbers refl i less).0)
          ∙ ap (λ b. cond b (row_stood (new k) (get_or rs k None)) (get_or rs k None)) (among_passing test (k + 1) 1 k es (omega arith))
          ∙ standing_row parts test environment (get_or es k None) (get_or rs k None)
          (of_rows_at (IsJudged parts.environment parts.tags parts.names.policies.items) es rs k (get_or es k None) (get_or rs k None) s.judged refl refl),
    )

places_anew : (P Q : EntryValue → Row → Type 0) (parts : Parts) (test : EntryValue → Bool) (environment : EnvironmentValue) (tags : List TagValue) (policy : ℕ → Policy) (rows : List (Option Row))
    → ((e : Option EntryValue) (r : Option Row) → OfBoth P e r → OfBoth Q e (anew test environment tags policy e r))
    → OfRows P parts.entries.items parts.rows.items → AreAnew parts test environment tags policy rows → OfRows Q parts.entries.items rows
places_anew P Q parts test environment tags policy rows step h is =
    of_rows_places P Q (anew test environment tags policy) step parts.entries.items parts.rows.items rows h is.0 is.1

-- what is put at the places has them
pub anew_within : (parts : Parts) (test : EntryValue → Bool) (environment : EnvironmentValue) (tags : List TagValue) (policy : ℕ → Policy) (fresh : List (ℕ × Option Row)) → IsSession parts
    → fresh ≡ rows_anew parts test environment tags policy → AllWithin (length parts.rows.items) fresh
anew_within parts test environment tags policy fresh s is =
    subst (AllWithin (length parts.rows.items)) (sym is)
    (all_within environment tags policy parts.entries.items parts.rows.items (length parts.rows.items) (passing test 1 parts.entries.items)
    (session_even parts s) (all_stand test parts.entries.items (passing test 1 parts.entries.items) refl))

pub standings_within : (parts : Parts) (test : EntryValue → Bool) (environment : EnvironmentValue) (fresh : List (ℕ × Standing)) → IsSession parts
    → fresh ≡ standings_anew parts test environment → AllWithin (length parts.rows.items) fresh
standings_within parts test environment fresh s is =
    subst (AllWithin (length parts.rows.items)) (sym is)
    (places_within (λ n. standing_of environment (get_or parts.entries.items (n - 1) None)) parts.entries.items (length parts.rows.items) (passing test 1 parts.entries.items)
    (session_even parts s) (all_stand test parts.entries.items (passing test 1 parts.entries.items) refl))

-- what no verdict has a part in stays
row_kept : (P : EntryValue → Row → Type 0) → ((e : EntryValue) (r : Row) (v : VerdictValue) → P e r → P e (record r { verdict = v }))
    → (test : EntryValue → Bool) (environment : EnvironmentValue) (tags : List TagValue) (policy : ℕ → Policy) (e : Option EntryValue) (r : Option Row) → OfBoth P e r → OfBoth P e (anew test environment tags policy e r)
row_kept P kept test environment tags policy None None h = tt
row_kept P kept test environment tags policy None (Some r) h = absurd h
row_kept P kept test environment tags policy (Some e) None h = absurd h
row_kept P kept test environment tags policy (Some e) (Some r) h = by (test e)
  where
    by : (b : Bool) → OfBoth P (Some e) (cond b (row_anew environment tags policy (Some e) (Some r)) (Some r))
    by true = kept e r (verdict_of e environment tags (policy r.name)) h
    by false = h

pub anew_named : (parts : Parts) (test : EntryValue → Bool) (environment : EnvironmentValue) (tags : List TagValue) (policy : ℕ → Policy) (rows : List (Option Row)) → IsSession parts
    → AreAnew parts test environment tags policy rows → OfRows (IsNamed parts.names) parts.entries.items rows
anew_named parts test environment tags policy rows s is =
    places_anew (IsNamed parts.names) (IsNamed parts.names) parts test environment tags policy rows
    (row_kept (IsNamed parts.names) (λ e r v h. record { name = h.name; sources = h.sources }) test environment tags policy) s.named is

pub anew_numbered : (parts : Parts) (test : EntryValue → Bool) (environment : EnvironmentValue) (tags : List TagValue) (policy : ℕ → Policy) (rows : List (Option Row)) → IsSession parts
    → AreAnew parts test environment tags policy rows → AreNumbered parts.conditions.count parts.entries.items rows
anew_numbered parts test environment tags policy rows s is =
    let known = s.conditions.0 in
    (known, s.conditions.1, places_anew (IsUnder known) (IsUnder known) parts test environment tags policy rows (row_kept (IsUnder known) (λ e r v h. h) test environment tags policy) s.conditions.2 is)

-- an entry that passes has the policy that it is judged under; one that doesn't keeps its verdict
pub record Suffices (parts : Parts) (test : EntryValue → Bool) (environment : EnvironmentValue) (tags : List TagValue) (policies : List Policy) (policy : ℕ → Policy) : Type 0 where
  pub hit : (e : EntryValue) (r : Row) → IsNamed parts.names e r → test e ≡ true → policy r.name ≡ policy_at policies r.name
  pub miss : (e : EntryValue) (r : Row) → IsNamed parts.names e r → test e ≡ false
      → verdict_of e parts.environment parts.tags (policy_at parts.names.policies.items r.name) ≡ verdict_of e environment tags (policy_at policies r.name)

judged_row : (parts : Parts) (test : EntryValue → Bool) (environment : EnvironmentValue) (tags : List TagValue) (policies : List Policy) (policy : ℕ → Policy) → Suffices parts test environment tags policies policy
    → (e : Option EntryValue) (r : Option Row) → OfBoth (NamedAndJudged parts.names parts.environment parts.tags) e r → OfBoth (IsJudged environment tags policies) e (anew test environment tags policy e r)
judged_row parts test environment tags policies policy suffices None None h = tt
judged_row parts test environment tags policies policy suffices None (Some r) h = absurd h
judged_row parts test environment tags policies policy suffices (Some e) None h = absurd h
judged_row parts test environment tags policies policy suffices (Some e) (Some r) h = by (test e) refl
  where
    by : (b : Bool) → test e ≡ b → OfBoth (IsJudged environment tags policies) (Some e) (cond b (row_anew environment tags policy (Some e) (Some r)) (Some r))
    by true is = ap (verdict_of e environment tags) (suffices.hit e r h.0 is)
    by false is = h.1 ∙ suffices.miss e r h.0 is

pub anew_judged : (parts : Parts) (test : EntryValue → Bool) (environment : EnvironmentValue) (tags : List TagValue) (policies : List Policy) (policy : ℕ → Policy) (rows : List (Option Row)) → IsSession parts
    → Suffices parts test environment tags policies policy → AreAnew parts test environment tags policy rows → OfRows (IsJudged environment tags policies) parts.entries.items rows
anew_judged parts test environment tags policies policy rows s suffices is =
    places_anew (NamedAndJudged parts.names parts.environment parts.tags) (IsJudged environment tags policies) parts test environment tags policy rows
    (judged_row parts test environment tags policies policy suffices)
    (of_rows_and (IsNamed parts.names) (IsJudged parts.environment parts.tags parts.names.policies.items) parts.entries.items parts.rows.items s.named s.judged) is

-- ---- keys

-- the place of a key's list
abbrev pub place_of : IndexKey → ℕ
place_of (Marked key) = key_number key
place_of OfTags = 13

pub at_place : {A : Type 0} (f : IndexKey → A) (d : A) (key : IndexKey) → get_or (map f keys) (place_of key) d ≡ f key
at_place f d (Marked (Of var.OsName)) = refl
at_place f d (Marked (Of var.SysPlatform)) = refl
at_place f d (Marked (Of var.PlatformMachine)) = refl
at_place f d (Marked (Of var.PlatformPythonImplementation)) = refl
at_place f d (Marked (Of var.PlatformRelease)) = refl
at_place f d (Marked (Of var.PlatformSystem)) = refl
at_place f d (Marked (Of var.PlatformVersion)) = refl
at_place f d (Marked (Of var.PythonVersion)) = refl
at_place f d (Marked (Of var.PythonFullVersion)) = refl
at_place f d (Marked (Of var.ImplementationName)) = refl
at_place f d (Marked (Of var.ImplementationVersion)) = refl
at_place f d (Marked Extras) = refl
at_place f d (Marked Groups) = refl
at_place f d OfTags = refl

-- the list under a key has what reads it
pub index_at : (parts : Parts) → IsSession parts → (key : IndexKey) → list_at parts.index (place_of key) ≡ readers key (state_of parts)
index_at parts s key =
    ap (λ lists. get_or lists (place_of key) []) s.index
    ∙ at_place (λ key. and_head (head_reads key parts.head) (passing (entry_reads key) 1 parts.entries.items)) [] key

-- the head's number, and the others
pub head_first : (b : Bool) (ns : List ℕ) → Rises 1 ns → (has_head (and_head b ns) ≡ b) × (after_head (and_head b ns) ≡ ns)
head_first true ns r = (refl, refl)
head_first false [] r = (refl, refl)
head_first false (n ∷ ns) r =
    let other : nat_eq n 0 ≡ false = ne_eqb n 0 (λ same. omega (arith, r.0, same)) in
    (other, ap (λ b. cond b ns (n ∷ ns)) other)

pub readers_here : (parts : Parts) (key : IndexKey) (place : ℕ) (d : Vec ℕ Global) (numbers : List ℕ) → IsSession parts → place ≡ place_of key → place < 14
    → numbers ≡ (get_or parts.index place d).items → numbers ≡ readers key (state_of parts)
readers_here parts key place d numbers s is less at =
    let items : Vec ℕ Global → List ℕ = λ list. list.items in
    let same = length-map parts.index items in
    let long : length (map items parts.index) ≡ 14 = ap length s.index in
    let within : place < length parts.index = omega (arith, same, long, less) in
    at ∙ sym (get_or-map items parts.index place d [] within) ∙ ap (list_at parts.index) is ∙ index_at parts s key

-- the head among them, and the entries
pub readers_both : (parts : Parts) (key : IndexKey) (place : ℕ) (d : Vec ℕ Global) (numbers : List ℕ) → IsSession parts → place ≡ place_of key → place < 14
    → numbers ≡ (get_or parts.index place d).items
    → (has_head numbers ≡ head_reads key parts.head) × (after_head numbers ≡ passing (entry_reads key) 1 parts.entries.items)
readers_both parts key place d numbers s is less at =
    let all = readers_here parts key place d numbers s is less at in
    let both = head_first (head_reads key parts.head) (passing (entry_reads key) 1 parts.entries.items) (passing_rises (entry_reads key) 1 parts.entries.items) in
    (ap has_head all ∙ both.0, ap after_head all ∙ both.1)

-- the numbers of all that is judged again: the head's, where it is, and those of entries
pub judged_both : (front more ns made : List ℕ) (b : Bool) → more ≡ front ++ cond b (0 ∷ []) [] → made ≡ more ++ ns → made ≡ front ++ and_head b ns
judged_both front more ns made b first then_rest = then_rest ∙ ap (λ xs. xs ++ ns) first ∙ by b
  where
    by : (b : Bool) → (front ++ cond b (0 ∷ []) []) ++ ns ≡ front ++ and_head b ns
    by true = simp append_assoc
    by false = simp append_assoc

-- ---- what suffices

pub no_and_yes : {P : Type 0} (b : Bool) → b ≡ false → b ≡ true → P
no_and_yes b never is = let e : false ≡ true = sym never ∙ is in cc
