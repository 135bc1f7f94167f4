use Rattle.std.proofs.Common.{◌≡◌, ◌++◌, take}
use Rattle.pylock_compare.specs.Lent.{each_told}
use Rattle.pylock_diff.specs.Inner.Lent.{lent_place}
use Rattle.pylock_diff.specs.Keys.{key_changes}
use Rattle.pylock_diff.proofs.keys.push_each.Given as goal

abbrev pub invariant-loop-key : goal.invariant-loop-key
invariant-loop-key l =
    l.changes.items ≡ l.initial.changes.items ++ each_told lent_place (key_changes l.name l.told) l.sides (take l.key-index l.key-items)
