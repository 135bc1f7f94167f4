use Rattle.std.proofs.Common.{◌≡◌, map, take}
use Rattle.pylock_diff.specs.Inner.Lent.{item_row, lent_pick}
use Rattle.pylock_diff.proofs.item.pick_items.Given as goal

abbrev pub invariant-loop-pick : goal.invariant-loop-pick
invariant-loop-pick l = map item_row l.rows.items ≡ map lent_pick (take l.pick-index l.picks)
