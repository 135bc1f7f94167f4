use Rattle.std.proofs.Common.{◌-◌}
use Rattle.pylock_run.specs.Report.Run.{most_bytes}
use Rattle.pylock_run.proofs.RunLemmas.{EditedSoFar}
use Rattle.pylock_run.proofs.report.run.feed_all.Given as goal

abbrev pub invariant-pieces : goal.invariant-pieces
invariant-pieces g l = EditedSoFar (g.P.Printing.shown l.printing) (g.R.Source.value l.initial.reader) (g.R.Source.value l.reader)
    (g.W.Sink.value l.initial.writer) (g.W.Sink.value l.writer) l.initial.editing l.editing l.total l.out.items

abbrev pub decreases-pieces : goal.decreases-pieces
decreases-pieces g l = most_bytes - l.total
