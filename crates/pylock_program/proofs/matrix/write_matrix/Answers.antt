-- What is printed of a refusal is the report on the question.
use Rattle.pylock_program.specs.Matrix.{begun_report, matrix_form, opened_matrix}
use Rattle.pylock_program.proofs.OpeningLemmas.{refused}
use Rattle.pylock_program.proofs.matrix.write_matrix.Goals as goal

pub returns-in-Err : goal.returns-in-Err
returns-in-Err g c = refused (matrix_form c.args.asked.now.output) c.matrix_form.result
    (begun_report c.args.asked.now) (opened_matrix c.args.asked.now c.args.file.now.bytes.items)
    c.in-Err.refusal.cause _ _ _ c.matrix_form.ensures c.write_refusal.ensures.printed c.write_refusal.ensures.memory c.in-Err.ensures.opened
