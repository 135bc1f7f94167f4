use Rattle.std.proofs.Common.{◌≡◌, ◌++◌, drop}
use Rattle.pylock_advisories.specs.Evaluation.{fixes_of}
use Rattle.pylock_advisories.specs.Lent.{lent}
use Rattle.pylock_advisories.proofs.advisory.fixes.Given as goal

abbrev pub invariant-loop-element : goal.invariant-loop-element
invariant-loop-element l =
    lent l.fixes.items ++ fixes_of (lent (drop l.element-index l.elements)) ≡ fixes_of (lent l.elements)
