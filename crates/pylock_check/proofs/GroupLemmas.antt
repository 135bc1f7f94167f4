-- Rounds over the dependency groups.
use Rattle.std.proofs.Common.{◌≡◌, ◌∙◌, ◌+◌, ◌-◌, ◌<◌, ℕ, zero, suc, Bool, List, refl, ap, sym, arith}
use Rattle.pylock_check.specs.Groups.{MarkedValue, after_round, after_rounds}
use Rattle.pylock_check.specs.Project.{SectionValue}

-- where a round finds no more, no later one does
pub stays : (test : List MarkedValue → SectionValue → Bool) (rounds : ℕ) (found : List MarkedValue) → after_round test found ≡ found → after_rounds test rounds found ≡ found
stays test zero found same = refl
stays test (suc rounds) found same = ap (after_rounds test rounds) same ∙ stays test rounds found same

-- of the rounds that are left one is made
pub one_round : (test : List MarkedValue → SectionValue → Bool) (all made : ℕ) (found : List MarkedValue) → made < all
    → after_rounds test (all - (made + 1)) (after_round test found) ≡ after_rounds test (all - made) found
one_round test all made found left =
    let one : all - made ≡ suc (all - (made + 1)) = omega arith in ap (λ rounds. after_rounds test rounds found) (sym one)

-- none is left
pub no_round : (test : List MarkedValue → SectionValue → Bool) (all : ℕ) (found : List MarkedValue) → after_rounds test (all - all) found ≡ found
no_round test all found = let none : all - all ≡ 0 = omega arith in ap (λ rounds. after_rounds test rounds found) none

pub ruleset steps = (stays, one_round, no_round)
