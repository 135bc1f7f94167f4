use Rattle.std.proofs.Common.{length, ◌-◌}
use Rattle.pylock_run.proofs.WriteLemmas.{Wrote}
use Rattle.pylock_run.proofs.stream.write_all.Given as goal

abbrev pub invariant-loop-done : goal.invariant-loop-done
invariant-loop-done g l = Wrote (g.W.Sink.value l.initial.writer) (g.W.Sink.value l.writer) l.text l.done

abbrev pub decreases-loop-done : goal.decreases-loop-done
decreases-loop-done g l = length l.text - l.done
