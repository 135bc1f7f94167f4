use Rattle.std.proofs.lemmas.Result.{err_from_is_err_and}
use Rattle.pylock_program.proofs.LineLemmas.{lines_poured, lines_printed, lines_refused, lines_unwritten}
use Rattle.pylock_program.proofs.lines.print_lines.Goals as goal

pub returns-in_err-push : goal.returns-in_err-push
returns-in_err-push g c =
    let p = err_from_is_err_and c.from_residual.result c.from_residual.ensures.1 in
    rw (p.1, p.2) (lines_refused g.L.Line.line c.args.text.items c.args.lines.now c.loop-line.line-index c.args.status _ _ _ c.loop-line.invariant)

pub returns-in_err-pour : goal.returns-in_err-pour
returns-in_err-pour g c =
    let p = err_from_is_err_and c.from_residual-in_err-pour.result c.from_residual-in_err-pour.ensures.1 in
    rw (p.1, p.2) (lines_unwritten g.L.Line.line c.args.text.items c.args.lines.now c.loop-line.line-index c.args.status c.line-item.result _ _ _ _ _
    c.in_err-pour.field-0.0 c.loop-line-test.true c.line-item.is c.loop-line.invariant c.in_ok-push.ensures c.in_err-pour.ensures.prefix c.in_err-pour.ensures.fault)

pub loop-line-preserved : goal.loop-line-preserved
loop-line-preserved g c =
    lines_poured g.L.Line.line c.args.text.items c.args.lines.now c.loop-line.line-index c.line-item.result _ _ _ _ _ _
    c.loop-line-test.true c.line-item.is c.loop-line.invariant c.in_ok-push.ensures c.in_ok-pour.ensures.poured

pub returns : goal.returns
returns g c =
    lines_printed g.L.Line.line c.args.text.items c.args.lines.now c.loop-line.line-index c.args.status _ _ _ _ _ c.print.result
    c.loop-line-test.false c.loop-line.invariant c.deref.ensures.value c.print.ensures.prints
