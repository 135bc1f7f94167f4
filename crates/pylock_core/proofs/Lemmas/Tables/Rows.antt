-- Lemmas on the rows of a session and the entries that they belong to.
use Rattle.std.proofs.Common.{[], ◌≡◌, ℕ, suc, zero, ◌+◌, ◌-◌, ◌<◌, ◌∙◌, true, false, ◌||◌, List, ◌∷◌, ◌++◌, length, get_or, set, Option, Some, None, IsSome, IfSome, ap, sym, refl, arith, Bool, nat_eq, map, cond, subst}
use Rattle.std.proofs.lemmas.List.{get_or_default, get_or-set_same, get_or-set_other, length-set}
use Rattle.pylock_readers.specs.Entry.{EntryValue}
use Rattle.pylock_core.specs.Inner.Parts.{OfBoth, OfRows}
use Rattle.pylock_core.specs.Inner.Answering.Steps.{NamesBelow, has_number}
use Rattle.pylock_core.specs.declared.session.tables.rows.Row.{Row}
use Rattle.std.proofs.lemmas.Bool.{eqb-true, eqb-false}
use Rattle.pylock_core.specs.Inner.Tables.Rows.{row_stood, with_each}
use Rattle.pylock_core.specs.Session.Steps.{standing}
use Rattle.pylock_core.specs.declared.answer.Standing.{Standing}
use Rattle.pylock_core.specs.Session.State.{in_rows}

-- ---- entries with their rows

pub same_length : (P : EntryValue → Row → Type 0) (es : List (Option EntryValue)) (rs : List (Option Row)) → OfRows P es rs → length rs ≡ length es
same_length P [] [] h = refl
same_length P [] (r ∷ rs) h = absurd h
same_length P (e ∷ es) [] h = absurd h
same_length P (e ∷ es) (r ∷ rs) h = ap suc (same_length P es rs h.1)

pub of_rows_set : (P : EntryValue → Row → Type 0) (es : List (Option EntryValue)) (rs : List (Option Row)) (k : ℕ) (e : Option EntryValue) (r : Option Row)
    → OfRows P es rs → OfBoth P e r → OfRows P (set es k e) (set rs k r)
of_rows_set P [] [] k e r h one = tt
of_rows_set P [] (s ∷ rs) k e r h one = absurd h
of_rows_set P (d ∷ es) [] k e r h one = absurd h
of_rows_set P (d ∷ es) (s ∷ rs) zero e r h one = (one, h.1)
of_rows_set P (d ∷ es) (s ∷ rs) (suc k) e r h one = (h.0, of_rows_set P es rs k e r h.1 one)

pub of_both_weaker : (P Q : EntryValue → Row → Type 0) → ((e : EntryValue) (r : Row) → P e r → Q e r) → (e : Option EntryValue) (r : Option Row) → OfBoth P e r → OfBoth Q e r
of_both_weaker P Q weaker None None h = tt
of_both_weaker P Q weaker None (Some r) h = absurd h
of_both_weaker P Q weaker (Some e) None h = absurd h
of_both_weaker P Q weaker (Some e) (Some r) h = weaker e r h

pub of_rows_weaker : (P Q : EntryValue → Row → Type 0) → ((e : EntryValue) (r : Row) → P e r → Q e r) → (es : List (Option EntryValue)) (rs : List (Option Row)) → OfRows P es rs → OfRows Q es rs
of_rows_weaker P Q weaker [] [] h = tt
of_rows_weaker P Q weaker [] (r ∷ rs) h = absurd h
of_rows_weaker P Q weaker (e ∷ es) [] h = absurd h
of_rows_weaker P Q weaker (e ∷ es) (r ∷ rs) h = (of_both_weaker P Q weaker e r h.0, of_rows_weaker P Q weaker es rs h.1)

of_both_and : (P Q : EntryValue → Row → Type 0) → (e : Option EntryValue) (r : Option Row) → OfBoth P e r → OfBoth Q e r → OfBoth (λ e r. P e r × Q e r) e r
of_both_and P Q None None h k = tt
of_both_and P Q None (Some r) h k = absurd h
of_both_and P Q (Some e) None h k = absurd h
of_both_and P Q (Some e) (Some r) h k = (h, k)

pub of_rows_and : (P Q : EntryValue → Row → Type 0) → (es : List (Option EntryValue)) (rs : List (Option Row)) → OfRows P es rs → OfRows Q es rs → OfRows (λ e r. P e r × Q e r) es rs
of_rows_and P Q [] [] h k = tt
of_rows_and P Q [] (r ∷ rs) h k = absurd h
of_rows_and P Q (e ∷ es) [] h k = absurd h
of_rows_and P Q (e ∷ es) (r ∷ rs) h k = (of_both_and P Q e r h.0 k.0, of_rows_and P Q es rs h.1 k.1)

-- ---- exits

pub below_at : (count : ℕ) (rows : List (Option Row)) (place : ℕ) (o : Option Row) → NamesBelow count rows → place < length rows → o ≡ get_or rows place o → IfSome o (λ row. row.name < count)
below_at count rows place None below within is = tt
below_at count rows place (Some row) below within is = below place row (get_or_default rows place None (Some row) within ∙ sym is)

pub some_within : {X : Type 0} (xs : List (Option X)) (k : ℕ) → IsSome (get_or xs k None) → k < length xs
some_within [] k there = let e : false ≡ true = there in cc
some_within (x ∷ xs) zero there = omega arith
some_within (x ∷ xs) (suc k) there = let rest : k < length xs = some_within xs k there in omega (arith, rest)

-- what holds of each entry and its row holds of those at a place
pub of_rows_at : (P : EntryValue → Row → Type 0) (es : List (Option EntryValue)) (rs : List (Option Row)) (k : ℕ) (e : Option EntryValue) (r : Option Row)
    → OfRows P es rs → e ≡ get_or es k None → r ≡ get_or rs k None → OfBoth P e r
of_rows_at P [] [] k e r h entry row = rw (entry, row) tt
of_rows_at P [] (x ∷ rs) k e r h entry row = absurd h
of_rows_at P (x ∷ es) [] k e r h entry row = absurd h
of_rows_at P (x ∷ es) (y ∷ rs) zero e r h entry row = rw (entry, row) h.0
of_rows_at P (x ∷ es) (y ∷ rs) (suc k) e r h entry row = of_rows_at P es rs k e r h.1 entry row

pub with_each_length : {X : Type 0} (put : X → Option Row → Option Row) (fresh : List (ℕ × X)) (rows : List (Option Row)) → length (with_each put fresh rows) ≡ length rows
with_each_length put [] rows = refl
with_each_length put (one ∷ more) rows =
    let row = put one.1 (get_or rows one.0 None) in
    with_each_length put more (set rows one.0 row) ∙ length-set rows one.0 row

-- at the places whose numbers are in the list stands what is made of the rows there
pub with_each_at : {X : Type 0} (put : X → Option Row → Option Row) → ((x : X) (r : Option Row) → put x (put x r) ≡ put x r) → (new : ℕ → X) (ns : List ℕ) (rows : List (Option Row)) (k : ℕ) → k < length rows
    → ((i : ℕ) → i < length ns → 0 < get_or ns i 0)
    → get_or (with_each put (map (λ n. (n - 1, new (n - 1))) ns) rows) k None ≡ cond (has_number ns (k + 1)) (put (new k) (get_or rows k None)) (get_or rows k None)
with_each_at put twice new [] rows k within above = refl
with_each_at put twice new (n ∷ ns) rows k within above =
    with_each_at put twice new ns (set rows (n - 1) (made (n - 1))) k (omega (arith, length-set rows (n - 1) (made (n - 1)))) (λ i less. above (suc i) (omega arith))
    ∙ by (nat_eq (k + 1) n) refl
  where
    made : ℕ → Option Row
    made j = put (new j) (get_or rows j None)

    both : (b : Bool) → cond b (put (new k) (made k)) (made k) ≡ made k
    both true = twice (new k) (get_or rows k None)
    both false = refl

    by : (b : Bool) → nat_eq (k + 1) n ≡ b
        → cond (has_number ns (k + 1)) (put (new k) (get_or (set rows (n - 1) (made (n - 1))) k None)) (get_or (set rows (n - 1) (made (n - 1))) k None)
        ≡ cond (b || has_number ns (k + 1)) (made k) (get_or rows k None)
    by true is =
        let same : k + 1 ≡ n = eqb-true (k + 1) n is in
        let place : k ≡ n - 1 = omega (arith, same) in
        let here : get_or (set rows (n - 1) (made (n - 1))) k None ≡ made k =
        subst (λ (j : ℕ). get_or (set rows j (made j)) k None ≡ made k) place (get_or-set_same rows k (made k) None within) in
        ap (λ r. cond (has_number ns (k + 1)) (put (new k) r) r) here ∙ both (has_number ns (k + 1))
    by false is =
        let ne : (k + 1 ≡ n → ⊥) = eqb-false (k + 1) n is in
        let positive : 0 < n = above 0 (omega arith) in
        ap (λ r. cond (has_number ns (k + 1)) (put (new k) r) r) (get_or-set_other rows (n - 1) k (made (n - 1)) None (λ same. ne (omega (arith, same, positive))))

pub stood_twice : (standing : Standing) (r : Option Row) → row_stood standing (row_stood standing r) ≡ row_stood standing r
stood_twice standing None = refl
stood_twice standing (Some r) = refl

-- what holds of each entry and its row, where the row at each place is made of what with_standings there
pub of_rows_places : (P Q : EntryValue → Row → Type 0) (f : Option EntryValue → Option Row → Option Row)
    → ((e : Option EntryValue) (r : Option Row) → OfBoth P e r → OfBoth Q e (f e r))
    → (es : List (Option EntryValue)) (rs new : List (Option Row)) → OfRows P es rs → length new ≡ length rs
    → ((k : ℕ) → k < length rs → get_or new k None ≡ f (get_or es k None) (get_or rs k None)) → OfRows Q es new
of_rows_places P Q f step [] [] [] h even at = tt
of_rows_places P Q f step [] [] (x ∷ new) h even at = absurd (omega (arith, even))
of_rows_places P Q f step [] (r ∷ rs) new h even at = absurd h
of_rows_places P Q f step (e ∷ es) [] new h even at = absurd h
of_rows_places P Q f step (e ∷ es) (r ∷ rs) [] h even at = absurd (omega (arith, even))
of_rows_places P Q f step (e ∷ es) (r ∷ rs) (x ∷ new) h even at = (
  subst (OfBoth Q e) (sym (at 0 (omega arith))) (step e r h.0),
  of_rows_places P Q f step es rs new h.1 (omega (arith, even)) (λ k within. at (suc k) (omega arith)),
)

-- ---- an empty place at the end

pub of_rows_wider : (P : EntryValue → Row → Type 0) (es : List (Option EntryValue)) (rs : List (Option Row)) → OfRows P es rs → OfRows P (es ++ None ∷ []) (rs ++ None ∷ [])
of_rows_wider P [] [] h = (tt, tt)
of_rows_wider P [] (r ∷ rs) h = absurd h
of_rows_wider P (e ∷ es) [] h = absurd h
of_rows_wider P (e ∷ es) (r ∷ rs) h = (h.0, of_rows_wider P es rs h.1)

pub in_rows_wider : {X : Type 0} (n : ℕ) (rows : List (Option X)) → in_rows n (rows ++ None ∷ []) ≡ in_rows n rows
in_rows_wider n [] = refl
in_rows_wider n (None ∷ rows) = in_rows_wider (n + 1) rows
in_rows_wider n (Some x ∷ rows) = ap (λ rest. (n, x) ∷ rest) (in_rows_wider (n + 1) rows)
