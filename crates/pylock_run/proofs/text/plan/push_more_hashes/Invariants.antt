use Rattle.std.proofs.Common.{◌≡◌, ◌++◌, take}
use Rattle.pylock_readers.specs.Text.{text_pairs}
use Rattle.pylock_run.specs.Inner.Fields.{more_hashes}
use Rattle.pylock_run.proofs.text.plan.push_more_hashes.Given as goal

abbrev pub invariant-loop-hash : goal.invariant-loop-hash
invariant-loop-hash l = l.out.items ≡ l.initial.out.items ++ more_hashes (text_pairs (take l.hash-index l.hashes))
