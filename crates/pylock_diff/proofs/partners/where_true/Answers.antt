use Rattle.std.proofs.Common.{◌≡◌, ◌∙◌, ◌++◌, ◌<◌, Bool, List, [], ◌∷◌, length, append-nil, ap, refl, sym, arith}
use Rattle.pylock_compare.specs.Partners.{where_true}
use Rattle.pylock_diff.proofs.partners.where_true.Goals as goal

-- nothing of no items
of_none : {V : Type 0} (flags : List Bool) → where_true {V = V} flags [] ≡ []
of_none [] = refl
of_none (flag ∷ flags) = refl

-- no item is left
all_done : {V : Type 0} (list left whole : List V) (flags : List Bool) → length left < 1
    → list ++ where_true flags left ≡ whole → list ≡ whole
all_done list [] whole flags none so_far = sym (append-nil list) ∙ ap (λ more. list ++ more) (sym (of_none flags)) ∙ so_far
all_done list (item ∷ left) whole flags none so_far = absurd (omega arith)

pub returns-in_default : goal.returns-in_default
returns-in_default c = all_done c.loop-flag.list.items c.loop-flag.left.now _ _ c.in_default.len_below c.loop-flag.invariant
