use Rattle.std.proofs.Common.{◌≡◌, ◌++◌, ℕ, Bor, List, take}
use Rattle.pylock_compare.specs.Lent.{each_told}
use Rattle.pylock_diff.specs.Hashes.{value_changes}
use Rattle.pylock_diff.proofs.hashes.push_algorithms.Given as goal

abbrev pub invariant-loop-algorithm : goal.invariant-loop-algorithm
invariant-loop-algorithm l =
    l.changes.items ≡ l.initial.changes.items
    ++ each_told (λ (text : Bor (List ℕ)). text.now) (value_changes l.name l.labels.0.now l.labels.1.now) l.sides (take l.algorithm-index l.algorithm-items)
