-- What is taken from the front of a list.
use Rattle.std.proofs.Common.{◌≡◌, ◌∙◌, ◌↔◌, ℕ, ◌<◌, ◌++◌, Bool, true, false, List, [], ◌∷◌, Option, Some, None, ap, arith, drop, option_to_list, refl, sym, nat_lt}
use Rattle.std.proofs.lemmas.Bool.{false≢true}
use Rattle.std.specs.Borrow.{Bor}
use Rattle.std.specs.Option.{option_copied}
use Rattle.std.specs.Prelude.{IsSome}
use Rattle.std.specs.Slice.{IsItemAt}
use Rattle.pylock_audit.specs.Finding.{LockFindingValue}
use Rattle.pylock_findings.specs.Inner.{IsTaken, is_below}
use Rattle.pylock_findings.specs.Merging.{from_number, numbers_below}

-- nothing is taken
pub rests : (number : ℕ) (old new : List LockFindingValue) (front : Option (Bor LockFindingValue)) (test : Bool)
    → IsItemAt old 0 front → test ≡ is_below number (option_copied front) → test ≡ false → new ≡ old → IsTaken number old new None
rests number [] new front test item is not same = (same, refl, refl)
rests number (one ∷ others) new None test item is not same = absurd (omega (arith, item.3))
rests number (one ∷ others) new (Some first) test item is not same =
    let higher : nat_lt one.number number ≡ false = ap (λ f. nat_lt f.number number) (sym item.1) ∙ sym is ∙ not in
    (same, rw higher refl, rw higher refl)

-- what is passed where the first is
abbrev passed : ℕ → List LockFindingValue → List LockFindingValue
passed number [] = []
passed number (one ∷ others) = one ∷ numbers_below number others

-- the first is taken
pub takes : (number n : ℕ) (old new : List LockFindingValue) (front : Option (Bor LockFindingValue)) (taken : Option LockFindingValue) (test : Bool)
    → IsItemAt old 0 front → test ≡ is_below number (option_copied front) → test ≡ true
    → IsSome front ↔ (0 < n) → IsSome taken ↔ (0 < n) → old ≡ option_to_list taken ++ new → IsTaken number old new taken
takes number n old new None taken test item is below there some parts = absurd (false≢true (sym is ∙ below))
takes number n [] new (Some first) taken test item is below there some parts = absurd (false≢true (sym item.0))
takes number n (one ∷ others) new (Some first) None test item is below there some parts = absurd (false≢true (some.1 (there.0 refl)))
takes number n (one ∷ others) new (Some first) (Some other) test item is below there some parts =
    let lower : nat_lt one.number number ≡ true = ap (λ f. nat_lt f.number number) (sym item.1) ∙ sym is ∙ below in
    (parts, rw lower (ap (passed number) parts), rw lower (ap (λ xs. from_number number (drop 1 xs)) parts))

pub ruleset takings = (rests, takes)
