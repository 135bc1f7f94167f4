use Rattle.std.proofs.Common.{◌≡◌, ◌++◌, take}
use Rattle.pylock_compare.specs.Lent.{each_told}
use Rattle.pylock_diff.specs.Changes.{name_changes}
use Rattle.pylock_diff.specs.Inner.Lent.{lent_item}
use Rattle.pylock_diff.proofs.names.push_names.Given as goal

abbrev pub invariant-loop-name : goal.invariant-loop-name
invariant-loop-name l =
    l.changes.items ≡ l.initial.changes.items ++ each_told lent_item name_changes l.sides (take l.name-index l.name-items)
