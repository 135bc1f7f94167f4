use Rattle.std.proofs.Common.{◌≡◌, ◌++◌, drop, map}
use Rattle.pylock_advisories.specs.Reading.{versions_in}
use Rattle.pylock_advisories.proofs.versions.versions_in.Given as goal

abbrev pub invariant-loop-text : goal.invariant-loop-text
invariant-loop-text l =
    l.versions.items ++ versions_in (map (λ text. text.now) (drop l.text-index l.texts))
    ≡ versions_in (map (λ text. text.now) l.texts)
