use Rattle.std.proofs.Common.{◌∙◌, List, ap, slice_get}
use Rattle.std.proofs.lemmas.Result.{err_from_is_err_and}
use Rattle.pywheel_core.specs.Target.Value.{TargetValue}
use Rattle.pylock_matrix.specs.Cell.{CellValue}
use Rattle.pylock_matrix.specs.Moving.{first_on}
use Rattle.pylock_program.proofs.MatrixLemmas.{begun_refused, chosen_has, chosen_so}
use Rattle.pylock_program.proofs.matrix.begin.Goals as goal

pub returns-in_err-choose-clause-begun : goal.returns-in_err-choose-clause-begun
returns-in_err-choose-clause-begun c =
    let p = err_from_is_err_and c.from_residual-in_err-choose.result c.from_residual-in_err-choose.ensures.1 in
    rw (p.1, p.2) (λ other.
    begun_refused c.args.asked.now c.args.cells.items c.args.lock c.in-Some.cell.now c.in_err-choose.field-0.0.cause
    (c.in-Some.ensures.value ∙ ap (λ (cells : List CellValue). slice_get cells 0) c.deref.ensures.value)
    (chosen_so c.deref-2.ensures.value (c.in_ok-session.ensures ∙ ap (λ (target : TargetValue). first_on target c.args.lock) c.target.ensures.target)
    (c.in_err-choose.ensures other)))

pub returns-clause-variables : goal.returns-clause-variables
returns-clause-variables c =
    chosen_has c.args.asked.now.options.items c.in-Some.cell.now.target c.args.lock c.choose.new.session.state
    (chosen_so c.deref-2.ensures.value (c.in_ok-session.ensures ∙ ap (λ (target : TargetValue). first_on target c.args.lock) c.target.ensures.target)
    c.in_ok-choose.ensures)
