use Rattle.std.proofs.Common.{◌≡◌, drop, map}
use Rattle.std.specs.List.{list_any}
use Rattle.pymark_core.specs.Marker.Asked.{comparison_reads_extra}
use Rattle.pylock_audit.proofs.marker.any_extra.Given as goal

abbrev pub invariant-loop-comparison : goal.invariant-loop-comparison
invariant-loop-comparison l =
    list_any comparison_reads_extra (map (λ c. c.now) l.comparisons)
    ≡ list_any comparison_reads_extra (map (λ c. c.now) (drop l.comparison-index l.comparisons))
