use Rattle.std.proofs.Common.{◌≡◌, drop}
use Rattle.std.specs.List.{list_any}
use Rattle.pylock_advisories.specs.Evaluation.{affects_version}
use Rattle.pylock_advisories.specs.Lent.{lent}
use Rattle.pylock_advisories.proofs.advisory.is_affected.Given as goal

abbrev pub invariant-loop-element : goal.invariant-loop-element
invariant-loop-element l =
    list_any (affects_version l.version) (lent (drop l.element-index l.elements))
    ≡ list_any (affects_version l.version) (lent l.elements)
