use Rattle.std.proofs.Common.{◌-◌, length}
use Rattle.pylock_run.proofs.RunLemmas.{Fed}
use Rattle.pylock_run.proofs.report.run.feed_piece.Given as goal

abbrev pub invariant-bytes : goal.invariant-bytes
invariant-bytes g l = Fed (g.P.Printing.shown l.printing) (g.W.Sink.value l.initial.writer) (g.W.Sink.value l.writer)
    l.initial.editing l.editing l.piece l.initial.out.items l.out.items l.done

abbrev pub decreases-bytes : goal.decreases-bytes
decreases-bytes g l = length l.piece - l.done
