-- Lemmas on the numbers of the conditions of entries.
use Rattle.std.proofs.Common.{[], ◌≡◌, ℕ, ◌+◌, suc, zero, ◌∙◌, List, ◌∷◌, ◌++◌, length, get_or, set, Option, Some, None, unwrap_or, subst, ap, sym, refl}
use Rattle.std.specs.List.{slice_get}
use Rattle.pymark_core.specs.Environment.{EnvironmentValue}
use Rattle.pylock_readers.specs.Entry.{EntryValue}
use Rattle.pylock_core.specs.Inner.Judging.Judgement.{standing_of}
use Rattle.pylock_core.specs.Inner.Tables.Conditions.{Condition, HasNumber, IsShared, IsUnder, condition_of, condition_standing}
use Rattle.pylock_core.specs.Inner.Judging.Standings.{number_in}
use Rattle.pylock_core.specs.Inner.Parts.{AreNumbered, IsSession, NumberFits, OfBoth, RowFits}
use Rattle.pylock_core.specs.declared.session.tables.conditions.Conditions.{Conditions}
use Rattle.pylock_core.specs.declared.session.parts.Parts.{Parts}
use Rattle.pylock_core.specs.declared.session.tables.rows.Row.{Row}
use Rattle.pylock_core.proofs.Lemmas.Tables.Rows.{of_rows_at, of_rows_set, of_rows_weaker, of_rows_wider}
use Rattle.pylock_core.proofs.Lemmas.Tables.Names.{length_more}

-- ---- numbers

-- one more at the end
stay_known : (old : List Condition) (c : Condition) (n : ℕ) (d : Condition) → slice_get old n ≡ Some d → slice_get (old ++ c ∷ []) n ≡ Some d
stay_known [] c n d at = let e : ◌≡◌ {A = Option Condition} None (Some d) = at in cc
stay_known (x ∷ xs) c zero d at = at
stay_known (x ∷ xs) c (suc n) d at = stay_known xs c n d at

last_known : (old : List Condition) (c : Condition) → slice_get (old ++ c ∷ []) (length old) ≡ Some c
last_known [] c = refl
last_known (x ∷ xs) c = last_known xs c

number_stays : (old : List Condition) (c : Condition) (e : EntryValue) (n : Option ℕ) → HasNumber old e n → HasNumber (old ++ c ∷ []) e n
number_stays old c e None h = tt
number_stays old c e (Some n) h = stay_known old c n (condition_of e) h

-- a number that is given anew
pub given_fits : (count : ℕ) (entries : List (Option EntryValue)) (rows : List (Option Row)) (entry : EntryValue) → AreNumbered count entries rows → NumberFits (count + 1) entries rows entry (Some count)
given_fits count entries rows entry are =
    let c = condition_of entry in
    let known = are.0 in (
      known ++ c ∷ [],
      length_more known c ∙ ap (λ n. n + 1) are.1,
      of_rows_weaker (IsUnder known) (IsUnder (known ++ c ∷ [])) (λ e r h. number_stays known c e r.condition h) entries rows are.2,
      subst (λ n. slice_get (known ++ c ∷ []) n ≡ Some c) are.1 (last_known known c),
    )

has_condition : (known : List Condition) (e : EntryValue) (o : Option ℕ) (n : ℕ) → HasNumber known e o → o ≡ Some n → slice_get known n ≡ Some (condition_of e)
has_condition known e o n has is = subst (HasNumber known e) is has

-- that of an entry which has the same condition
pub shared_fits : (count : ℕ) (entries : List (Option EntryValue)) (rows : List (Option Row)) (entry : EntryValue) (n : ℕ) → AreNumbered count entries rows → IsShared entries rows entry n → NumberFits count entries rows entry (Some n)
shared_fits count entries rows entry n are shared =
    let known = are.0 in
    let place = shared.0 in
    let other = shared.1 in
    let row = shared.2 in
    let both : OfBoth (IsUnder known) (Some other) (Some row) = of_rows_at (IsUnder known) entries rows place (Some other) (Some row) are.2 (sym shared.3) (sym shared.4) in
    (known, are.1, are.2, has_condition known other row.condition n both shared.5 ∙ ap Some shared.6)

-- a row that is written
pub row_numbered : (count : ℕ) (entries : List (Option EntryValue)) (rows : List (Option Row)) (place : ℕ) (entry : Option EntryValue) (row : Option Row) → RowFits count entries rows entry row
    → AreNumbered count (set entries place entry) (set rows place row)
row_numbered count entries rows place entry row fits =
    (fits.0, fits.1, of_rows_set (IsUnder fits.0) entries rows place entry row fits.2 fits.3)

-- one more place, at which none stands
pub numbered_wider : (count : ℕ) (entries : List (Option EntryValue)) (rows : List (Option Row)) → AreNumbered count entries rows → AreNumbered count (entries ++ None ∷ []) (rows ++ None ∷ [])
numbered_wider count entries rows are = (are.0, are.1, of_rows_wider (IsUnder are.0) entries rows are.2)

pub fits_wider : (count : ℕ) (entries : List (Option EntryValue)) (rows : List (Option Row)) (entry : Option EntryValue) (row : Option Row) → RowFits count entries rows entry row
    → RowFits count (entries ++ None ∷ []) (rows ++ None ∷ []) entry row
fits_wider count entries rows entry row fits = (fits.0, fits.1, of_rows_wider (IsUnder fits.0) entries rows fits.2, fits.3)

-- ---- the parts

pub session_conditions : (p : Parts) (conditions : Conditions) → AreNumbered conditions.count p.entries.items p.rows.items → IsSession p → IsSession (record p { conditions = conditions })
session_conditions p conditions are s = record {
  few = s.few;
  named = s.named;
  judged = s.judged;
  head = s.head;
  names = s.names;
  members = s.members;
  index = s.index;
  living = s.living;
  sets = s.sets;
  conditions = are;
}

pub fits_are : (count : ℕ) (entries : List (Option EntryValue)) (rows : List (Option Row)) (entry : EntryValue) (n : Option ℕ) → NumberFits count entries rows entry n → AreNumbered count entries rows
fits_are count entries rows entry n fits = (fits.0, fits.1, fits.2)

-- ---- entries of one number stand alike

some_same : (c d : Condition) → ◌≡◌ {A = Option Condition} (Some c) (Some d) → c ≡ d
some_same c d is = ap (λ o. unwrap_or o c) is

number_known : (known : List Condition) (environment : EnvironmentValue) (e : Option EntryValue) (r : Option Row) (n : ℕ) → OfBoth (IsUnder known) e r → number_in r ≡ Some n
    → (c : Condition) × (slice_get known n ≡ Some c) × (standing_of environment e ≡ condition_standing environment c)
number_known known environment e None n h is = let no : ◌≡◌ {A = Option ℕ} None (Some n) = is in cc
number_known known environment None (Some r) n h is = absurd h
number_known known environment (Some e) (Some r) n h is = (condition_of e, has_condition known e r.condition n h is, refl)

pub alike : (count : ℕ) (entries : List (Option EntryValue)) (rows : List (Option Row)) (environment : EnvironmentValue) (n one other : ℕ) → AreNumbered count entries rows
    → number_in (get_or rows one None) ≡ Some n → number_in (get_or rows other None) ≡ Some n
    → standing_of environment (get_or entries one None) ≡ standing_of environment (get_or entries other None)
alike count entries rows environment n one other are first second =
    let known = are.0 in
    let at : (k : ℕ) → OfBoth (IsUnder known) (get_or entries k None) (get_or rows k None) = λ k. of_rows_at (IsUnder known) entries rows k _ _ are.2 refl refl in
    let a = number_known known environment (get_or entries one None) (get_or rows one None) n (at one) first in
    let b = number_known known environment (get_or entries other None) (get_or rows other None) n (at other) second in
    let same : ◌≡◌ {A = Option Condition} (Some a.0) (Some b.0) = sym a.1 ∙ b.1 in
    a.2 ∙ ap (condition_standing environment) (some_same a.0 b.0 same) ∙ sym b.2
