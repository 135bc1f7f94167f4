use Rattle.std.proofs.Common.{◌≡◌, ◌++◌, drop}
use Rattle.pylock_compare.specs.Partners.{where_true}
use Rattle.pylock_diff.proofs.partners.where_true.Given as goal

-- the items so far, and those of what is to come
abbrev pub invariant-loop-flag : goal.invariant-loop-flag
invariant-loop-flag l = l.list.items ++ where_true (drop l.flag-index l.flags) l.left ≡ where_true l.flags l.items
