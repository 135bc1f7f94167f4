use Rattle.std.proofs.Common.{◌≡◌, length}
use Rattle.pyver_core.specs.Version.Reading.{dotted_number_at, many_at}
use Rattle.pyver_core.proofs.version.reading.base.after_dotted_numbers.Given as goal

abbrev pub invariant-loop-after : goal.invariant-loop-after
invariant-loop-after l = (many_at dotted_number_at l.rest).1 ≡ (many_at dotted_number_at l.bytes).1

abbrev pub decreases-loop-after : goal.decreases-loop-after
decreases-loop-after l = length l.rest
