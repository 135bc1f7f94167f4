use Rattle.std.proofs.Common.{◌≡◌, ◌++◌, take}
use Rattle.pylock_compare.specs.Lent.{each_told}
use Rattle.pylock_diff.specs.Head.{head_told}
use Rattle.pylock_diff.proofs.head.push_keys.Given as goal

abbrev pub invariant-loop-key : goal.invariant-loop-key
invariant-loop-key l =
    l.changes.items ≡ l.initial.changes.items ++ each_told (λ key. key.now) head_told l.sides (take l.key-index l.keys)
