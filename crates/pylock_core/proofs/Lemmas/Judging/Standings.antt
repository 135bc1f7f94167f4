-- Lemmas on what an edit has found of how entries of a number stand.
use Rattle.std.proofs.Common.{[], ◌≡◌, ◌⊎◌, ⊎_elim, inl, inr, ℕ, suc, zero, ◌∙◌, List, ◌∷◌, get_or, set, Option, Some, None, unwrap_or, ap, sym}
use Rattle.pymark_core.specs.Environment.{EnvironmentValue}
use Rattle.pylock_readers.specs.Entry.{EntryValue}
use Rattle.pylock_core.specs.Inner.Judging.Judgement.{standing_of}
use Rattle.pylock_core.specs.Inner.Judging.Standings.{AreFound, number_in}
use Rattle.pylock_core.specs.Inner.Parts.{AreNumbered}
use Rattle.pylock_core.specs.declared.answer.Standing.{Standing}
use Rattle.pylock_core.specs.declared.session.judging.standings.FoundStanding.{FoundStanding}
use Rattle.pylock_core.specs.declared.session.tables.rows.Row.{Row}
use Rattle.pylock_core.proofs.Lemmas.Tables.Conditions.{alike}

-- where no place has anything
pub none_found : (entries : List (Option EntryValue)) (rows : List (Option Row)) (environment : EnvironmentValue) (found : List (Option FoundStanding))
    → ((place : ℕ) → get_or found place None ≡ None) → AreFound entries rows environment found
none_found entries rows environment found none = λ number standing place is here.
    let e : ◌≡◌ {A = Option FoundStanding} None (Some (record { number = number; standing = standing })) = sym (none is.0) ∙ is.1 in cc

-- what is kept of an entry that was judged
pub found_kept : (count : ℕ) (entries : List (Option EntryValue)) (rows : List (Option Row)) (environment : EnvironmentValue) (old new : List (Option FoundStanding)) (place n : ℕ) (s : Standing)
    → AreNumbered count entries rows → AreFound entries rows environment old
    → number_in (get_or rows place None) ≡ Some n → s ≡ standing_of environment (get_or entries place None)
    → ((p : ℕ) (kept : FoundStanding) → get_or new p None ≡ Some kept → (get_or old p None ≡ Some kept) ⊎ (kept ≡ record { number = n; standing = s }))
    → AreFound entries rows environment new
found_kept count entries rows environment old new place n s are before number stands kept = λ m t other is here.
    ⊎_elim (λ was. before m t other (is.0, was) here)
    (λ now.
    let same : m ≡ n = ap (λ (f : FoundStanding). f.number) now in
    ap (λ (f : FoundStanding). f.standing) now ∙ stands ∙ alike count entries rows environment n place other are number (here ∙ ap Some same))
    (kept is.0 (record { number = m; standing = t }) is.1)

-- one more in place of another
pub found_put : (found : List (Option FoundStanding)) (m : ℕ) (x : FoundStanding) (place : ℕ) (kept : FoundStanding) → get_or (set found m (Some x)) place None ≡ Some kept
    → (get_or found place None ≡ Some kept) ⊎ (kept ≡ x)
found_put [] m x place kept at = inl at
found_put (y ∷ ys) zero x zero kept at = inr (ap (λ o. unwrap_or o kept) (sym at))
found_put (y ∷ ys) zero x (suc place) kept at = inl at
found_put (y ∷ ys) (suc m) x zero kept at = inl at
found_put (y ∷ ys) (suc m) x (suc place) kept at = found_put ys m x place kept at
