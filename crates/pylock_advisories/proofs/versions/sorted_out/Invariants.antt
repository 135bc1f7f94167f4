use Rattle.std.proofs.Common.{◌≡◌, ◌++◌, drop, map}
use Rattle.pylock_advisories.specs.Reading.{others_in, versions_in}
use Rattle.pylock_advisories.proofs.versions.sorted_out.Given as goal

abbrev pub invariant-loop-text : goal.invariant-loop-text
invariant-loop-text l =
    (l.versions.items ++ versions_in (map (λ text. text.now) (drop l.text-index l.texts))
    ≡ versions_in (map (λ text. text.now) l.texts))
    × (l.others.items ++ others_in (map (λ text. text.now) (drop l.text-index l.texts))
    ≡ others_in (map (λ text. text.now) l.texts))
