use Rattle.std.proofs.Common.{◌≡◌, map, take}
use Rattle.pylock_diff.specs.Inner.Lent.{lent_item}
use Rattle.pylock_diff.proofs.item.with_keys.Given as goal

abbrev pub invariant-loop-item : goal.invariant-loop-item
invariant-loop-item l = l.list.items ≡ map lent_item (take l.item-index l.items)
