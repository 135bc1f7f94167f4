use Rattle.std.proofs.Common.{length}
use Rattle.std.specs.Str.{IsUtf8}
use Rattle.pymark_expected.proofs.set.read_set.Given as goal

abbrev pub invariant-loop-next : goal.invariant-loop-next
invariant-loop-next l = IsUtf8 l.last.from.now × IsUtf8 l.last.end.now

abbrev pub decreases-loop-next : goal.decreases-loop-next
decreases-loop-next l = length l.last.end.now
