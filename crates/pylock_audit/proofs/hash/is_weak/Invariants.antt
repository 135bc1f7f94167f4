use Rattle.std.proofs.Common.{◌≡◌, drop}
use Rattle.pylock_readers.specs.Text.{text_pairs}
use Rattle.pylock_audit.specs.Hash.{is_weak}
use Rattle.pylock_audit.proofs.hash.is_weak.Given as goal

abbrev pub invariant-loop-hash : goal.invariant-loop-hash
invariant-loop-hash l =
    is_weak (text_pairs l.hashes) ≡ is_weak (text_pairs (drop l.hash-index l.hashes))
