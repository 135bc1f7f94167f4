use Rattle.std.proofs.Common.{◌≡◌, ◌++◌, map, take}
use Rattle.pylock_readers.specs.Text.{text_pairs}
use Rattle.pylock_diff.specs.Inner.Lent.{hash_row}
use Rattle.pylock_diff.proofs.hashes.push_pairs.Given as goal

abbrev pub invariant-loop-algorithm : goal.invariant-loop-algorithm
invariant-loop-algorithm l = map hash_row l.rows.items ≡ map hash_row l.initial.rows.items ++ text_pairs (take l.algorithm-index l.pairs)
