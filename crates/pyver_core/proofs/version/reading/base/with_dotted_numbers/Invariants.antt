use Rattle.std.proofs.Common.{◌≡◌, ◌++◌, length}
use Rattle.pyver_core.specs.Version.Grammar.{has_large}
use Rattle.pyver_core.specs.Version.Reading.{dotted_number_at, many_at}
use Rattle.pyver_core.proofs.version.reading.base.with_dotted_numbers.Given as goal

abbrev pub invariant-loop-next : goal.invariant-loop-next
invariant-loop-next l = (l.numbers.items ++ (many_at dotted_number_at l.rest).0 ≡ l.initial.numbers.items ++ (many_at dotted_number_at l.bytes).0) × (has_large (many_at dotted_number_at l.rest).0 ≡ has_large (many_at dotted_number_at l.bytes).0)

abbrev pub decreases-loop-next : goal.decreases-loop-next
decreases-loop-next l = length l.rest
