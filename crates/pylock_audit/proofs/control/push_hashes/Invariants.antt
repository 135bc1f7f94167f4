use Rattle.std.proofs.Common.{◌≡◌, ◌++◌, take}
use Rattle.pylock_readers.specs.Text.{text_pairs}
use Rattle.pylock_audit.specs.Source.{controlled_hashes}
use Rattle.pylock_audit.proofs.control.push_hashes.Given as goal

abbrev pub invariant-loop-hash : goal.invariant-loop-hash
invariant-loop-hash l =
    l.list.items ≡ l.initial.list.items ++ controlled_hashes l.name (text_pairs (take l.hash-index l.hashes))
