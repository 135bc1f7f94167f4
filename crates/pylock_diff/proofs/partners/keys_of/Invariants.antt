use Rattle.std.proofs.Common.{◌≡◌, map, take}
use Rattle.pylock_diff.specs.Inner.Lent.{lent_items}
use Rattle.pylock_diff.specs.Partners.{item_key}
use Rattle.pylock_diff.proofs.partners.keys_of.Given as goal

abbrev pub invariant-loop-item : goal.invariant-loop-item
invariant-loop-item l = l.keys.items ≡ map item_key (lent_items (take l.item-index l.items))
