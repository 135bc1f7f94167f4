use Rattle.std.proofs.Common.{◌≡◌, map, take}
use Rattle.pylock_diff.specs.Inner.Lent.{lent_pick}
use Rattle.pylock_diff.specs.Item.{pick_items}
use Rattle.pylock_diff.proofs.item.entries_picked.Given as goal

abbrev pub invariant-loop-pick : goal.invariant-loop-pick
invariant-loop-pick l = map lent_pick l.list.items ≡ pick_items l.session.state (take l.pick-index l.picks)
