use Rattle.std.proofs.Common.{◌≡◌, Some, ◌++◌, drop}
use Rattle.pylock_exports.specs.Base.{elsewhere}
use Rattle.pylock_exports.specs.Inner.{all_lent}
use Rattle.pylock_exports.proofs.base.elsewhere.Given as goal

-- those so far, and those of what is left
abbrev pub invariant-loop-listed : goal.invariant-loop-listed
invariant-loop-listed l =
    all_lent l.found.items ++ elsewhere l.form (Some l.base) (all_lent (drop l.listed-index l.list)) ≡ elsewhere l.form (Some l.base) (all_lent l.list)
