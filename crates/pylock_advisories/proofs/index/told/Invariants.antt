use Rattle.std.proofs.Common.{◌≡◌, ◌++◌, drop, map, option_copied}
use Rattle.std.specs.List.{filter_map}
use Rattle.pylock_advisories.specs.Evaluation.{elements_of, told}
use Rattle.pylock_advisories.specs.Lent.{lent, told_as}
use Rattle.pylock_advisories.proofs.index.told.Given as goal

abbrev pub invariant-loop-advisory : goal.invariant-loop-advisory
invariant-loop-advisory l =
    map told_as l.affecting.items
    ++ filter_map (λ a. told l.text (option_copied l.version) (elements_of l.name a) a) (lent (drop l.advisory-index l.advisories))
    ≡ filter_map (λ a. told l.text (option_copied l.version) (elements_of l.name a) a) (lent l.advisories)
