use Rattle.std.proofs.Common.{◌-◌, ◌≤◌}
use Rattle.pymark_core.specs.Inner.Passed.{BeginsNowhere}
use Rattle.pymark_core.proofs.substring.passed_places.Given as goal

-- the part begins at none of the places so far
abbrev pub invariant-loop-passed : goal.invariant-loop-passed
invariant-loop-passed l = BeginsNowhere l.part l.whole 0 l.passed × (l.passed ≤ l.places)

abbrev pub decreases-loop-passed : goal.decreases-loop-passed
decreases-loop-passed l = l.places - l.passed
