use Rattle.std.proofs.Common.{◌≡◌, ◌++◌, codes, drop, filter, map}
use Rattle.pylock_readers.specs.Text.{text_pairs}
use Rattle.pylock_shown.specs.Hidden.{hidden}
use Rattle.pylock_audit.specs.Source.{is_told}
use Rattle.pylock_audit.proofs.source.push_told_hashes.Given as goal

abbrev pub invariant-loop-hash : goal.invariant-loop-hash
invariant-loop-hash l =
    l.list.items ++ map (λ hash. l.label ++ codes " " ++ hidden hash.0) (filter (is_told l.kind) (text_pairs (drop l.hash-index l.hashes)))
    ≡ l.initial.list.items ++ map (λ hash. l.label ++ codes " " ++ hidden hash.0) (filter (is_told l.kind) (text_pairs l.hashes))
