use Rattle.std.proofs.Common.{◌≡◌, ◌++◌, codes, string_bytes, take}
use Rattle.std.specs.List.{flat_map}
use Rattle.pylock_readers.specs.Text.{text_pairs}
use Rattle.pylock_shown.specs.Hidden.{hidden}
use Rattle.pylock_audit.proofs.source.push_more.Given as goal

abbrev pub invariant-loop-hash : goal.invariant-loop-hash
invariant-loop-hash l =
    string_bytes l.text ≡ string_bytes l.initial.text ++ flat_map (λ hash. codes "," ++ hidden hash.0) (text_pairs (take l.hash-index l.hashes))
