use Rattle.std.proofs.Common.{◌≡◌, ◌++◌, drop}
use Rattle.pylock_advisories.specs.Lent.{lent}
use Rattle.pylock_advisories.proofs.advisory.push_lent.Given as goal

abbrev pub invariant-loop-version : goal.invariant-loop-version
invariant-loop-version l =
    lent l.fixes.items ++ drop l.version-index l.versions ≡ lent l.initial.fixes.items ++ l.versions
