use Rattle.std.proofs.Common.{◌≡◌, drop}
use Rattle.pylock_readers.specs.Text.{text_pairs}
use Rattle.pylock_exports.specs.Listed.{hash_of}
use Rattle.pylock_exports.proofs.hashes.hash_of.Given as goal

-- none of the hashes so far is of the algorithm
abbrev pub invariant-loop-name : goal.invariant-loop-name
invariant-loop-name l = hash_of l.algorithm (text_pairs l.hashes) ≡ hash_of l.algorithm (text_pairs (drop l.name-index l.hashes))
