use Rattle.std.proofs.Common.{◌≡◌, ◌++◌, drop}
use Rattle.std.specs.List.{flat_map}
use Rattle.pylock_advisories.specs.Lent.{lent}
use Rattle.pylock_advisories.proofs.advisory.push_fixes.Given as goal

abbrev pub invariant-loop-range : goal.invariant-loop-range
invariant-loop-range l =
    lent l.fixes.items ++ flat_map (λ r. r.fixed) (drop l.range-index l.ranges)
    ≡ lent l.initial.fixes.items ++ flat_map (λ r. r.fixed) l.ranges
