-- Findings, one row after the other, and entries by their names.
use Rattle.std.proofs.Common.{◌≡◌, ℕ, suc, zero, ◌+◌, ◌<◌, ◌≤◌, length, take, get_or, Bool, true, false, cond, List, [], ◌∷◌, ◌++◌, map, Option, Some, None, ap, ◌∙◌, sym, subst, inl, inr, refl, arith}
use Rattle.std.specs.Prelude.{slice_get}
use Rattle.std.specs.List.{All, Contains, enumerate_from, filter}
use Rattle.std.specs.Option.{MatchOption, option_map, unwrap_or}
use Rattle.std.specs.Str.{bytes_eq}
use Rattle.std.proofs.lemmas.List.{length-take-le, map-append, take_more}
use Rattle.std.proofs.lemmas.List.Elements.{All-cons, All-contains, All-head, All-map, All-nil, All-push, All-tail, All-weaker, filter-append}
use Rattle.std.proofs.lemmas.Bool.{cases_lt}
use Rattle.std.proofs.lemmas.Option.{get_or_from_slice_get, slice_get_within}
use Rattle.std.proofs.lemmas.Slice.Eq.{bytes_eq-Decides}
use Rattle.pylock_readers.specs.Entry.{EntryValue}
use Rattle.pylock_readers.specs.Lock.{HeadValue}
use Rattle.pylock_core.specs.Session.State.{Rises}
use Rattle.pymark_algebra.specs.declared.answer.Answer.{Answer}
use Rattle.pymark_algebra.specs.declared.answer.Answer.TheVariants.{Yes, No, Undecided}
use Rattle.pylock_environments.specs.Environments.{IsNowhere, StandTogether, Stands}
use Rattle.pylock_environments.specs.Findings.{AreWhole, Clashes, IsClear, IsEarlier, IsEntry, IsShown, Pythons, Row, Standings, place, place_of, row_number, row_of}
use Rattle.pylock_environments.specs.Inner.{AreBefore, IsClashTold, IsTold, IsToldAlone, Says, named_before, never_by, numbered, numbered_of, with_told}
use Rattle.pylock_environments.specs.declared.finding.EnvironmentFinding.{EnvironmentFinding}
use Rattle.pylock_environments.specs.declared.lock.WeighedEntry.{WeighedEntry}
use Rattle.pylock_environments.specs.declared.finding.Found.{Found}
use Rattle.pylock_environments.specs.declared.finding.Found.TheVariants.{Clash, MayClash, Never, MayNever, NarrowerPython, MayBeNarrower}

-- ---- places

row_within : (row : Row) → row_number row < 3
row_within Clashes = omega arith
row_within Standings = omega arith
row_within Pythons = omega arith

same_row : (row other : Row) → row_number row ≡ row_number other → row ≡ other
same_row Clashes Clashes is = refl
same_row Clashes Standings is = absurd (omega (arith, is))
same_row Clashes Pythons is = absurd (omega (arith, is))
same_row Standings Clashes is = absurd (omega (arith, is))
same_row Standings Standings is = refl
same_row Standings Pythons is = absurd (omega (arith, is))
same_row Pythons Clashes is = absurd (omega (arith, is))
same_row Pythons Standings is = absurd (omega (arith, is))
same_row Pythons Pythons is = refl

same_place : (n m : ℕ) (row other : Row) → place n row ≡ place m other → (n ≡ m) × (row ≡ other)
same_place n m row other is =
    let low = row_within row in
    let high = row_within other in
    let numbers : n ≡ m = omega (arith, low, high, is) in
    (numbers, same_row row other (omega (arith, numbers, is)))

pub same_entry : (entries : List EntryValue) (n : ℕ) (e f : EntryValue) → IsEntry entries n e → IsEntry entries n f → f ≡ e
same_entry entries n e f one other =
    let index : one.0 ≡ other.0 = omega (arith, one.1, other.1) in
    let same : Some e ≡ Some f = sym one.2 ∙ ap (slice_get entries) index ∙ other.2 in cc

-- ---- findings so far

rises_push : (low end : ℕ) (xs : List ℕ) → low ≤ end → Rises low xs → All (λ x. x < end) xs → Rises low (xs ++ end ∷ [])
rises_push low end [] within rises below = (within, tt)
rises_push low end (x ∷ xs) within rises below =
    let first : x < end = All-head (λ x. x < end) x xs below in
    (rises.0, rises_push (x + 1) end xs (omega arith) rises.1 (All-tail (λ x. x < end) x xs below))

all_places : (end : ℕ) (fs : List EnvironmentFinding) → All (λ f. place_of f < end) fs → All (λ x. x < end) (map place_of fs)
all_places end [] below = All-nil (λ x. x < end)
all_places end (f ∷ fs) below =
    All-cons (λ x. x < end) (place_of f) (map place_of fs) (All-head (λ f. place_of f < end) f fs below) (all_places end fs (All-tail (λ f. place_of f < end) f fs below))

front_of : {X : Type 0} (P : X → Type 0) (xs : List X) (x : X) → All P (xs ++ x ∷ []) → All P xs
front_of P [] x all = All-nil P
front_of P (y ∷ xs) x all = All-cons P y xs (All-head P y (xs ++ x ∷ []) all) (front_of P xs x (All-tail P y (xs ++ x ∷ []) all))

last_of : {X : Type 0} (P : X → Type 0) (xs : List X) (x : X) → All P (xs ++ x ∷ []) → P x
last_of P [] x all = All-head P x [] all
last_of P (y ∷ xs) x all = last_of P xs x (All-tail P y (xs ++ x ∷ []) all)

module _ (head : HeadValue) (entries : List EntryValue) where
  -- before the first entry nothing is found
  pub none_before : (end : ℕ) → end ≤ 3 → AreBefore head entries end []
  none_before end small = record {
    shown = All-nil (IsShown head entries);
    whole = λ n e row within is nothing. absurd (omega (arith, within, is.1, small));
    rise = tt;
    below = All-nil (λ f. place_of f < end);
  }

  -- what is clear of a row of an entry, as it is the one at this place
  clear_at : (n m : ℕ) (e f : EntryValue) (row other : Row) → place m other ≡ place n row → IsEntry entries n e → IsEntry entries m f
      → IsClear head entries n e row → IsClear head entries m f other
  clear_at n m e f row other same at is clear =
      let each = same_place m n other row same in
      let index : m ≡ n = each.0 in
      let here : IsEntry entries n f = subst (λ (k : ℕ). IsEntry entries k f) index is in
      let entry : f ≡ e = same_entry entries n e f at here in
      subst (λ (r : Row). IsClear head entries m f r) (sym each.1)
      (subst (λ (g : EntryValue). IsClear head entries m g row) (sym entry)
      (subst (λ (k : ℕ). IsClear head entries k e row) (sym index) clear))

  -- one row more
  pub row_more : (n : ℕ) (e : EntryValue) (row : Row) (told : Option Found) (fs : List EnvironmentFinding) → IsEntry entries n e
      → IsTold head entries n e row told → AreBefore head entries (place n row) fs → AreBefore head entries (place n row + 1) (with_told fs n told)
  row_more n e row None fs at clear before = record {
    shown = before.shown;
    whole = λ m f other within is nothing. elim (cases_lt (place m other) (place n row)) [
      | inl earlier ↦ before.whole m f other earlier is nothing
      | inr later ↦ clear_at n m e f row other (omega (arith, within, later)) at is clear
    ];
    rise = before.rise;
    below = All-weaker (λ f. place_of f < place n row) (λ f. place_of f < place n row + 1) (λ f less. omega (arith, less)) fs before.below;
  }
  row_more n e row (Some found) fs at told before =
      let finding : EnvironmentFinding = record { entry = n; found = found } in
      let here : place_of finding ≡ place n row = ap (place n) told.0 in
      record {
        shown = All-push (IsShown head entries) fs finding before.shown (e, at, told.1);
        whole = λ m f other within is nothing. elim (cases_lt (place m other) (place n row)) [
          | inl earlier ↦ before.whole m f other earlier is (front_of (λ x. x.entry ≡ m → row_of x.found ≡ other → ⊥) fs finding nothing)
          | inr later ↦
              let same = same_place n m row other (omega (arith, within, later)) in
              absurd (last_of (λ x. x.entry ≡ m → row_of x.found ≡ other → ⊥) fs finding nothing same.0 (told.0 ∙ same.1))
        ];
        rise = subst (Rises 0) (sym (map-append place_of fs (finding ∷ [])))
            (subst (λ (x : ℕ). Rises 0 (map place_of fs ++ x ∷ [])) (sym here)
            (rises_push 0 (place n row) (map place_of fs) (omega arith) before.rise (all_places (place n row) fs before.below)));
        below = All-push (λ f. place_of f < place n row + 1) fs finding
            (All-weaker (λ f. place_of f < place n row) (λ f. place_of f < place n row + 1) (λ f less. omega (arith, less)) fs before.below)
            (omega (arith, here));
      }

  -- the three rows of an entry
  pub rows_more : (n : ℕ) (e : EntryValue) (clash never narrower : Option Found) (fs : List EnvironmentFinding) → IsEntry entries n e
      → IsTold head entries n e Clashes clash → IsTold head entries n e Standings never → IsTold head entries n e Pythons narrower
      → AreBefore head entries (place n Clashes) fs
      → AreBefore head entries (place (n + 1) Clashes) (with_told (with_told (with_told fs n clash) n never) n narrower)
  rows_more n e clash never narrower fs at one two three before =
      let first = row_more n e Clashes clash fs at one before in
      let second = row_more n e Standings never (with_told fs n clash) at two
      (subst (λ (end : ℕ). AreBefore head entries end (with_told fs n clash)) (omega arith) first) in
      let third = row_more n e Pythons narrower (with_told (with_told fs n clash) n never) at three
      (subst (λ (end : ℕ). AreBefore head entries end (with_told (with_told fs n clash) n never)) (omega arith) second) in
      subst (λ (end : ℕ). AreBefore head entries end (with_told (with_told (with_told fs n clash) n never) n narrower)) (omega arith) third

  -- behind the last entry all is found
  entry_within : (n : ℕ) (e : EntryValue) → IsEntry entries n e → n ≤ length entries
  entry_within n e is =
      let within : is.0 < length entries = slice_get_within entries is.0 e is.2 in omega (arith, is.1, within)

  pub all_whole : (end : ℕ) (fs : List EnvironmentFinding) → length entries < end → AreBefore head entries (place end Clashes) fs → AreWhole head entries fs
  all_whole end fs past before = λ n e row is nothing.
      let within : n ≤ length entries = entry_within n e is in
      before.whole n e row (omega (arith, within, past, row_within row)) is nothing

-- ---- entries by their names

abbrev Named : List ℕ → ℕ × EntryValue → Bool
Named name e = bytes_eq name e.1.name

enumerate_append : {X : Type 0} (n : ℕ) (xs ys : List X) → enumerate_from n (xs ++ ys) ≡ enumerate_from n xs ++ enumerate_from (n + length xs) ys
enumerate_append n [] ys = ap (λ k. enumerate_from k ys) (omega arith)
enumerate_append n (x ∷ xs) ys =
    ap (λ rest. (n, x) ∷ rest) (enumerate_append (n + 1) xs ys ∙ ap (λ k. enumerate_from (n + 1) xs ++ enumerate_from k ys) (omega arith))

take_one : (i : ℕ) (entries : List EntryValue) (e : EntryValue) → slice_get entries i ≡ Some e → take (i + 1) entries ≡ take i entries ++ e ∷ []
take_one i entries e is =
    take_more entries i e (slice_get_within entries i e is) ∙ ap (λ x. take i entries ++ x ∷ []) (get_or_from_slice_get entries i e e is)

-- the entries that have the name, of the first i: one more
pub named_more : (name : List ℕ) (n i : ℕ) (entries : List EntryValue) (e : EntryValue) → slice_get entries i ≡ Some e
    → filter (Named name) (enumerate_from n (take (i + 1) entries))
    ≡ filter (Named name) (enumerate_from n (take i entries)) ++ cond (bytes_eq name e.name) ((n + i, e) ∷ []) []
named_more name n i entries e is =
    let within : i < length entries = slice_get_within entries i e is in
    let count : length (take i entries) ≡ i = length-take-le i entries (omega arith) in
    ap (λ es. filter (Named name) (enumerate_from n es)) (take_one i entries e is)
    ∙ ap (filter (Named name)) (enumerate_append n (take i entries) (e ∷ []))
    ∙ filter-append (Named name) (enumerate_from n (take i entries)) (enumerate_from (n + length (take i entries)) (e ∷ []))
    ∙ ap (λ k. filter (Named name) (enumerate_from n (take i entries)) ++ cond (bytes_eq name e.name) ((n + k, e) ∷ []) []) count

contains_here : {X : Type 0} (x : X) (xs : List X) → Contains (x ∷ xs) x
contains_here x xs = (0, omega arith, refl)

contains_there : {X : Type 0} (x : X) (xs : List X) (t : X) → Contains xs t → Contains (x ∷ xs) t
contains_there x xs t h = (suc h.0, omega (arith, h.1), h.2)

-- what an entry is that has the name, of the first i, where the first has the number n
abbrev IsNamed : List ℕ → ℕ → ℕ → List EntryValue → ℕ × EntryValue → Type 0
IsNamed name n i entries o = (k : ℕ) × (o.0 ≡ n + k) × (k < i) × (slice_get entries k ≡ Some o.1) × (bytes_eq name o.1.name ≡ true)

all_named : (name : List ℕ) (n i : ℕ) (entries : List EntryValue)
    → All (IsNamed name n i entries) (filter (Named name) (enumerate_from n (take i entries)))
all_named name n zero entries = All-nil (IsNamed name n zero entries)
all_named name n (suc i) [] = All-nil (IsNamed name n (suc i) [])
all_named name n (suc i) (x ∷ entries) =
    at (bytes_eq name x.name) refl
    (All-weaker (IsNamed name (n + 1) i entries) (IsNamed name n (suc i) (x ∷ entries))
    (λ o is. (suc is.0, omega (arith, is.1), omega (arith, is.2), is.3, is.4))
    (filter (Named name) (enumerate_from (n + 1) (take i entries))) (all_named name (n + 1) i entries))
  where
    at : (b : Bool) → bytes_eq name x.name ≡ b
        → All (IsNamed name n (suc i) (x ∷ entries)) (filter (Named name) (enumerate_from (n + 1) (take i entries)))
        → All (IsNamed name n (suc i) (x ∷ entries))
        (cond b ((n, x) ∷ filter (Named name) (enumerate_from (n + 1) (take i entries))) (filter (Named name) (enumerate_from (n + 1) (take i entries))))
    at true is rest = All-cons (IsNamed name n (suc i) (x ∷ entries)) (n, x) _ (zero, omega arith, omega arith, refl, is) rest
    at false is rest = rest

each_named : (name : List ℕ) (n i : ℕ) (entries : List EntryValue) (k : ℕ) (o : EntryValue) → k < i → slice_get entries k ≡ Some o
    → bytes_eq name o.name ≡ true → Contains (filter (Named name) (enumerate_from n (take i entries))) (n + k, o)
each_named name n zero entries k o below at is = absurd (omega (arith, below))
each_named name n (suc i) [] k o below at is = let no : ◌≡◌ {A = Option EntryValue} None (Some o) = at in absurd cc
each_named name n (suc i) (x ∷ entries) zero o below at is =
    let same : x ≡ o = cc in
    let named : bytes_eq name x.name ≡ true = ap (λ (y : EntryValue). bytes_eq name y.name) same ∙ is in
    let rest : List (ℕ × EntryValue) = filter (Named name) (enumerate_from (n + 1) (take i entries)) in
    let first : Contains ((n, x) ∷ rest) (n + 0, o) =
    subst (λ (y : ℕ × EntryValue). Contains ((n, x) ∷ rest) y) (ap (λ m. (m, x)) (omega arith) ∙ ap (λ (y : EntryValue). (n + 0, y)) same) (contains_here (n, x) rest) in
    subst (λ (b : Bool). Contains (cond b ((n, x) ∷ rest) rest) (n + 0, o)) (sym named) first
each_named name n (suc i) (x ∷ entries) (suc k) o below at is =
    let later : Contains (filter (Named name) (enumerate_from (n + 1) (take i entries))) (n + suc k, o) =
    subst (λ (m : ℕ). Contains (filter (Named name) (enumerate_from (n + 1) (take i entries))) (m, o)) (omega arith)
    (each_named name (n + 1) i entries k o (omega (arith, below)) at is) in
    behind (bytes_eq name x.name) later
  where
    behind : (b : Bool) → Contains (filter (Named name) (enumerate_from (n + 1) (take i entries))) (n + suc k, o)
        → Contains (cond b ((n, x) ∷ filter (Named name) (enumerate_from (n + 1) (take i entries)))
        (filter (Named name) (enumerate_from (n + 1) (take i entries)))) (n + suc k, o)
    behind true there = contains_there (n, x) _ (n + suc k, o) there
    behind false there = there

-- ---- clashes

-- an entry of a list, with its number
pub contains_numbered : (ws : List WeighedEntry) (i : ℕ) (w : WeighedEntry) → i < length ws → w ≡ get_or ws i w → Contains (numbered ws) (numbered_of w)
contains_numbered [] i w within is = absurd (omega (arith, within))
contains_numbered (x ∷ ws) zero w within is =
    subst (λ (y : WeighedEntry). Contains (numbered (x ∷ ws)) (numbered_of y)) (sym is) (contains_here (numbered_of x) (numbered ws))
contains_numbered (x ∷ ws) (suc i) w within is =
    contains_there (numbered_of x) (numbered ws) (numbered_of w) (contains_numbered ws i w (omega (arith, within)) is)

-- the first that was undecided, or else this one
pub known_or : (first : Option ℕ) (n : ℕ) (P : Type 0) (Q : ℕ → Type 0) → MatchOption first P Q → Q n → Q (unwrap_or first n)
known_or None n P Q known here = here
known_or (Some m) n P Q known here = known

pub known_more : (first : Option ℕ) (P R : Type 0) (Q : ℕ → Type 0) → (P → R) → MatchOption first P Q → MatchOption first R Q
known_more None P R Q more known = more known
known_more (Some m) P R Q more known = known

pub known_told : (head : HeadValue) (ws : List WeighedEntry) (e : EntryValue) (first : Option ℕ)
    → MatchOption first (All (λ w. IsNowhere head (StandTogether w.entry.now e)) ws) (λ n. (earlier : EntryValue) × Contains (numbered ws) (n, earlier))
    → (told : Option Found) → told ≡ option_map (λ n. MayClash n) first → IsClashTold head (numbered ws) e told
known_told head ws e None known told is =
    subst (IsClashTold head (numbered ws) e) (sym is) (All-map (λ (o : ℕ × EntryValue). IsNowhere head (StandTogether o.1 e)) numbered_of ws known)
known_told head ws e (Some n) known told is = subst (IsClashTold head (numbered ws) e) (sym is) known

pub never_told : (head : HeadValue) (e : EntryValue) (a : Answer) → Says head (Stands e) (Stands e) a → (told : Option Found) → told ≡ never_by a
    → IsToldAlone head e Standings told
never_told head e Yes says told is = subst (IsToldAlone head e Standings) (sym is) (λ entries n. (refl, says))
never_told head e (No environment) says told is = subst (IsToldAlone head e Standings) (sym is) (λ entries n. (environment, says.0, says.1))
never_told head e Undecided says told is = subst (IsToldAlone head e Standings) (sym is) (λ entries n. (refl, tt))

same_name : (x y : List ℕ) → bytes_eq x y ≡ true → x ≡ y
same_name x y is = (bytes_eq-Decides x y).0 is

itself_named : (x y : List ℕ) → x ≡ y → bytes_eq x y ≡ true
itself_named x y is = (bytes_eq-Decides x y).1 is

module _ (head : HeadValue) (entries : List EntryValue) (i : ℕ) (e : EntryValue) where
  earlier_of : (m : ℕ) (o : EntryValue) → Contains (filter (Named e.name) (enumerate_from 1 (take i entries))) (m, o) → IsEarlier entries m (i + 1) o e
  earlier_of m o among =
      let is : IsNamed e.name 1 i entries (m, o) = All-contains (IsNamed e.name 1 i entries) _ (m, o) (all_named e.name 1 i entries) among in
      record {
        stands = (is.0, omega (arith, is.1), is.3);
        before = omega (arith, is.1, is.2);
        named = sym (same_name e.name o.name is.4);
      }

  among_others : (m : ℕ) (o : EntryValue) → IsEarlier entries m (i + 1) o e → Contains (filter (Named e.name) (enumerate_from 1 (take i entries))) (m, o)
  among_others m o earlier =
      let at = earlier.stands in
      subst (λ (n : ℕ). Contains (filter (Named e.name) (enumerate_from 1 (take i entries))) (n, o)) (omega (arith, at.1))
      (each_named e.name 1 i entries at.0 o (omega (arith, at.1, earlier.before)) at.2 (itself_named e.name o.name (sym earlier.named)))

  -- what is told of the clashes with them
  pub clash_told : (told : Option Found) → IsClashTold head (filter (Named e.name) (enumerate_from 1 (take i entries))) e told
      → IsTold head entries (i + 1) e Clashes told
  clash_told None is = λ m o earlier. All-contains (λ (x : ℕ × EntryValue). IsNowhere head (StandTogether x.1 e)) _ (m, o) is (among_others m o earlier)
  clash_told (Some (Clash m environment)) is = (refl, (is.0, earlier_of m is.0 is.1, is.2, is.3))
  clash_told (Some (MayClash m)) is = (refl, (is.0, earlier_of m is.0 is.1))
  clash_told (Some Never) is = absurd is
  clash_told (Some MayNever) is = absurd is
  clash_told (Some (NarrowerPython environment)) is = absurd is
  clash_told (Some MayBeNarrower) is = absurd is

  -- what is told of all rows
  pub entry_more : (n : ℕ) (others : List (ℕ × EntryValue)) (clash never narrower : Option Found) (fs : List EnvironmentFinding) → n ≡ i + 1 → slice_get entries i ≡ Some e
      → others ≡ named_before e.name i entries → IsClashTold head others e clash → IsToldAlone head e Standings never → IsToldAlone head e Pythons narrower
      → AreBefore head entries (place n Clashes) fs
      → AreBefore head entries (place (n + 1) Clashes) (with_told (with_told (with_told fs n clash) n never) n narrower)
  entry_more n others clash never narrower fs number at are one two three before =
      let told = clash_told clash (subst (λ (os : List (ℕ × EntryValue)). IsClashTold head os e clash) are one) in
      rows_more head entries n e clash never narrower fs (i, number, at)
      (subst (λ (m : ℕ). IsTold head entries m e Clashes clash) (sym number) told) (two entries n) (three entries n) before

-- ---- one entry more is passed

one_numbered : (b : Bool) (w : WeighedEntry) → map numbered_of (cond b (w ∷ []) []) ≡ cond b (numbered_of w ∷ []) []
one_numbered true w = refl
one_numbered false w = refl

pub passed_more : (name key : List ℕ) (i : ℕ) (entries : List EntryValue) (e : EntryValue) (ws new : List WeighedEntry) (w : WeighedEntry)
    → slice_get entries i ≡ Some e → w.number ≡ i + 1 → w.entry.now ≡ e → key ≡ e.name
    → numbered ws ≡ named_before name i entries → new ≡ ws ++ cond (bytes_eq name key) (w ∷ []) []
    → numbered new ≡ named_before name (i + 1) entries
passed_more name key i entries e ws new w at number entry named old is =
    let first : w.number ≡ 1 + i = omega (arith, number) in
    ap numbered is
    ∙ map-append numbered_of ws (cond (bytes_eq name key) (w ∷ []) [])
    ∙ ap (λ front. front ++ map numbered_of (cond (bytes_eq name key) (w ∷ []) [])) old
    ∙ ap (λ last. named_before name i entries ++ last)
    (one_numbered (bytes_eq name key) w ∙ ap (λ k. cond (bytes_eq name k) (numbered_of w ∷ []) []) named
    ∙ ap (λ o. cond (bytes_eq name e.name) (o ∷ []) []) (λ j. (first j, entry j)))
    ∙ sym (named_more name 1 i entries e at)
