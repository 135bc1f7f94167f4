use Rattle.std.proofs.Common.{◌≡◌, drop, map}
use Rattle.std.specs.List.{list_any}
use Rattle.pylock_audit.specs.Entry.{asks_undeclared}
use Rattle.pylock_audit.proofs.marker.any_undeclared.Given as goal

abbrev pub invariant-loop-comparison : goal.invariant-loop-comparison
invariant-loop-comparison l =
    list_any (asks_undeclared l.head) (map (λ c. c.now) l.compared)
    ≡ list_any (asks_undeclared l.head) (map (λ c. c.now) (drop l.comparison-index l.compared))
