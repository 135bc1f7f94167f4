use Rattle.std.proofs.lemmas.List.{take_rest}
use Rattle.std.proofs.lemmas.Result.{IfErr-weaker, err_from_is_err_and, on_err_weaker, on_ok_weaker}
use Rattle.pylock_run.proofs.WriteLemmas.{Pours-all, prefix_after_all}
use Rattle.pylock_run.proofs.RunLemmas.{on_err, Fed-more, Fed-prefix, Fed-fault, Fed-all, feed_fault_from_flush}
use Rattle.pylock_run.proofs.report.run.feed_piece.Goals as goal

pub returns-in_err-done-clause-prefix : goal.returns-in_err-done-clause-prefix
returns-in_err-done-clause-prefix g c =
    on_err c.from_residual.result
    (Fed-prefix _ _ _ _ _ _ _ _ _ _ _ c.bytes.invariant (take_rest c.args.piece.now c.bytes.done) c.in_err-done.ensures.prefix)

pub returns-in_err-done-clause-fault : goal.returns-in_err-done-clause-fault
returns-in_err-done-clause-fault g c =
    let p = err_from_is_err_and c.from_residual.result c.from_residual.ensures.1 in
    rw (p.1, p.2) (Fed-fault _ (g.W.Sink.value c.args.writer.now) _ (g.W.Sink.value c.feed_some.new.writer) _ _ _ _ _ _ _ c.in_err-done.field-0.0 c.bytes.invariant (take_rest c.args.piece.now c.bytes.done) c.in_err-done.ensures.fault)

pub bytes-preserved : goal.bytes-preserved
bytes-preserved g c =
    Fed-more _ _ _ _ _ _ _ _ _ _ _ _ _ _ c.bytes.invariant (take_rest c.args.piece.now c.bytes.done) c.in_ok-done.ensures.some.1
    c.in_ok-done.ensures.editing c.in_ok-done.ensures.poured

pub returns-clause-prefix : goal.returns-clause-prefix
returns-clause-prefix g c =
    let all = Fed-all _ _ _ _ _ _ _ _ _ c.bytes.invariant c.bytes-test.false in
    on_err_weaker c.flush.result (λ prefix. prefix_after_all _ _ _ _ _ all.1 prefix) c.flush.ensures.prefix

pub returns-clause-editing : goal.returns-clause-editing
returns-clause-editing g c =
    let all = Fed-all _ _ _ _ _ _ _ _ _ c.bytes.invariant c.bytes-test.false in
    on_ok_weaker c.flush.result (λ written. all.0) c.flush.ensures.written

pub returns-clause-written : goal.returns-clause-written
returns-clause-written g c =
    let all = Fed-all _ _ _ _ _ _ _ _ _ c.bytes.invariant c.bytes-test.false in
    on_ok_weaker c.flush.result (λ written. Pours-all _ _ _ _ _ all.1 written) c.flush.ensures.written

pub returns-clause-fault : goal.returns-clause-fault
returns-clause-fault g c =
    let all = Fed-all _ _ _ _ _ _ _ _ _ c.bytes.invariant c.bytes-test.false in
    IfErr-weaker c.flush.result _ _ (λ fault why. feed_fault_from_flush _ _ (g.W.Sink.value c.flush.new.writer) _ _ _ fault all.1 why) c.flush.ensures.fault
