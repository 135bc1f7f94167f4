use Rattle.std.proofs.Common.{◌≡◌, ◌++◌, codes, string_bytes, take}
use Rattle.std.specs.List.{flat_map}
use Rattle.pylock_compare.specs.Lent.{lent_texts}
use Rattle.pylock_shown.specs.Hidden.{hidden}
use Rattle.pylock_diff.proofs.hashes.push_shown.Given as goal

abbrev pub invariant-loop-other : goal.invariant-loop-other
invariant-loop-other l =
    string_bytes l.text ≡ string_bytes l.initial.text ++ flat_map (λ other. codes "," ++ hidden other) (lent_texts (take l.other-index l.others))
