use Rattle.std.proofs.Common.{◌≡◌, drop}
use Rattle.pylock_readers.specs.Text.{text_pairs}
use Rattle.pylock_installed.specs.Picked.{hash_by}
use Rattle.pylock_installed.proofs.picked.hash_by.Given as goal

-- none of the hashes so far is of the algorithm
abbrev pub invariant-loop-name : goal.invariant-loop-name
invariant-loop-name l = hash_by l.algorithm (text_pairs l.hashes) ≡ hash_by l.algorithm (text_pairs (drop l.name-index l.hashes))
