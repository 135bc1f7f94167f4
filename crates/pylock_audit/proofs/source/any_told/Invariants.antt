use Rattle.std.proofs.Common.{◌≡◌, drop}
use Rattle.std.specs.List.{list_any}
use Rattle.pylock_readers.specs.Text.{text_pairs}
use Rattle.pylock_audit.specs.Source.{is_told}
use Rattle.pylock_audit.proofs.source.any_told.Given as goal

abbrev pub invariant-loop-hash : goal.invariant-loop-hash
invariant-loop-hash l =
    list_any (is_told l.kind) (text_pairs l.hashes) ≡ list_any (is_told l.kind) (text_pairs (drop l.hash-index l.hashes))
