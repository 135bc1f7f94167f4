use Rattle.std.proofs.lemmas.Result.{err_from_is_err_and}
use Rattle.pylock_run.proofs.ReportLemmas.{stops_at_once, stops_at_first, stops_between, stops_at_last, session_reports}
use Rattle.pylock_run.proofs.report.run.edit_all.Goals as goal

pub returns-in_err-buffer : goal.returns-in_err-buffer
returns-in_err-buffer g c =
    let p = err_from_is_err_and c.from_residual.result c.from_residual.ensures.1 in
    rw (p.1, p.2) (stops_at_once _ _ _ _)

pub returns-in_err-editing : goal.returns-in_err-editing
returns-in_err-editing g c =
    let p = err_from_is_err_and c.from_residual-in_err-editing.result c.from_residual-in_err-editing.ensures.1 in
    rw (p.1, p.2) (stops_at_first (g.P.Printing.shown c.args.printing.now) c.args.session.state _ _ _ c.in_err-editing.field-0.0 c.in_err-editing.ensures.prefix c.in_err-editing.ensures.fault)

pub returns-in_err-feed_all : goal.returns-in_err-feed_all
returns-in_err-feed_all g c =
    let p = err_from_is_err_and c.from_residual-in_err-feed_all.result c.from_residual-in_err-feed_all.ensures.1 in
    let begun = c.in_ok-editing.ensures in
    rw (p.1, p.2) (stops_between (g.P.Printing.shown c.args.printing.now) c.args.session.state _ _ _ _ _ _ c.in_err-feed_all.field-0.0 begun.editing begun.written c.in_err-feed_all.ensures.fault)

pub returns-in_err-write_last_answer : goal.returns-in_err-write_last_answer
returns-in_err-write_last_answer g c =
    let p = err_from_is_err_and c.from_residual-in_err-write_last_answer.result c.from_residual-in_err-write_last_answer.ensures.1 in
    let begun = c.in_ok-editing.ensures in
    let fed = c.in_ok-feed_all.ensures in
    rw (p.1, p.2) (stops_at_last (g.P.Printing.shown c.args.printing.now) c.args.session.state _ _ _ _ _ _ _ _ c.in_err-write_last_answer.field-0.0 begun.editing begun.written fed.edited
    c.in_err-write_last_answer.ensures.prefix c.in_err-write_last_answer.ensures.fault)

pub returns : goal.returns
returns g c =
    let begun = c.in_ok-editing.ensures in
    let fed = c.in_ok-feed_all.ensures in
    let complete = c.in_ok-write_last_answer.ensures in
    session_reports (g.P.Printing.shown c.args.printing.now) c.args.session.state _ _ _ _ _ _ _ _ _ _ begun.editing begun.written fed.edited fed.end complete.within complete.editing complete.written c.status-status.ensures
