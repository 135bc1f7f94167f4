use Rattle.std.proofs.Common.{◌≡◌, length}
use Rattle.pyver_core.specs.Version.Reading.{separated_segment_at, many_at}
use Rattle.pyver_core.proofs.version.reading.local.after_separated_segments.Given as goal

abbrev pub invariant-loop-after : goal.invariant-loop-after
invariant-loop-after l = (many_at separated_segment_at l.rest).1 ≡ (many_at separated_segment_at l.bytes).1

abbrev pub decreases-loop-after : goal.decreases-loop-after
decreases-loop-after l = length l.rest
