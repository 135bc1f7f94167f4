use Rattle.std.proofs.Common.{◌≡◌, drop, map}
use Rattle.std.specs.List.{list_any}
use Rattle.pylock_audit.specs.Readings.{differs}
use Rattle.pylock_audit.proofs.marker.any_differs.Given as goal

abbrev pub invariant-loop-comparison : goal.invariant-loop-comparison
invariant-loop-comparison l =
    list_any differs (map (λ c. c.now) l.compared)
    ≡ list_any differs (map (λ c. c.now) (drop l.comparison-index l.compared))
