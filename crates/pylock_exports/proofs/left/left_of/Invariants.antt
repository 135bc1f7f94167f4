use Rattle.std.proofs.Common.{◌≡◌, ◌+◌, ◌≤◌, drop, map}
use Rattle.pylock_exports.specs.Inner.{all_lent}
use Rattle.pylock_exports.specs.Texts.{first_left, left_out, shown_left}
use Rattle.pylock_exports.proofs.LeftLemmas.{with_left}
use Rattle.pylock_exports.proofs.left.left_of.Given as goal

-- those so far, and those of what is left
abbrev pub invariant-loop-listed : goal.invariant-loop-listed
invariant-loop-listed l =
    (l.count + left_out l.form (all_lent (drop l.listed-index l.list)) ≡ left_out l.form (all_lent l.list)) × (l.count ≤ l.listed-index)
    × (with_left l.form (map shown_left l.first.items) (all_lent (drop l.listed-index l.list)) ≡ first_left l.form (all_lent l.list))
