use Rattle.std.proofs.Common.{◌≡◌, drop, option_copied}
use Rattle.std.specs.List.{list_any}
use Rattle.pylock_advisories.specs.Evaluation.{affects}
use Rattle.pylock_advisories.specs.Lent.{lent}
use Rattle.pylock_advisories.proofs.advisory.affects.Given as goal

abbrev pub invariant-loop-element : goal.invariant-loop-element
invariant-loop-element l =
    list_any (affects l.text (option_copied l.version)) (lent (drop l.element-index l.elements))
    ≡ list_any (affects l.text (option_copied l.version)) (lent l.elements)
