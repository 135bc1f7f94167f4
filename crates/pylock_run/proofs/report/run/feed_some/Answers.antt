use Rattle.std.proofs.lemmas.Result.{err_from_is_err_and}
use Rattle.pylock_run.proofs.RunLemmas.{on_err, feed_fault_from_take, piece_prefix}
use Rattle.pylock_run.proofs.report.run.feed_some.Goals as goal

pub returns-in_err-count-clause-fault : goal.returns-in_err-count-clause-fault
returns-in_err-count-clause-fault g c =
    let p = err_from_is_err_and c.from_residual.result c.from_residual.ensures.1 in
    rw (p.1, p.2) (feed_fault_from_take (g.W.Sink.value c.args.writer.now) c.args.editing.now c.args.bytes.now c.in_err-count.field-0.0 c.requires c.in_err-count.ensures.fault)

pub returns-in_err-flush-clause-prefix : goal.returns-in_err-flush-clause-prefix
returns-in_err-flush-clause-prefix g c =
    on_err c.from_residual-in_err-flush.result
    (piece_prefix (g.P.Printing.shown c.args.printing.now) _ _ c.args.editing.now c.args.bytes.now c.args.out.now.items _ c.in_ok-count.count c.in_ok-count.ensures.text c.in_err-flush.ensures.prefix)
