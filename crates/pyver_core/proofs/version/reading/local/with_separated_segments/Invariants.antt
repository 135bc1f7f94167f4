use Rattle.std.proofs.Common.{◌≡◌, ◌++◌, length}
use Rattle.std.specs.Prelude.{flat_map}
use Rattle.pyver_core.specs.Version.Grammar.{has_large, number_in_segment}
use Rattle.pyver_core.specs.Version.Reading.{separated_segment_at, many_at}
use Rattle.pyver_core.proofs.version.reading.local.with_separated_segments.Given as goal

abbrev pub invariant-loop-next : goal.invariant-loop-next
invariant-loop-next l = (l.segments.items ++ (many_at separated_segment_at l.rest).0 ≡ l.initial.segments.items ++ (many_at separated_segment_at l.bytes).0) × (has_large (flat_map number_in_segment (many_at separated_segment_at l.rest).0) ≡ has_large (flat_map number_in_segment (many_at separated_segment_at l.bytes).0))

abbrev pub decreases-loop-next : goal.decreases-loop-next
decreases-loop-next l = length l.rest
