-- What is printed of a refusal is the report on the question.
use Rattle.pylock_program.specs.CheckMatrix.{opened_targets}
use Rattle.pylock_program.proofs.CheckMatrixLemmas.{refuses}
use Rattle.pylock_program.proofs.check.each.write_check.Goals as goal

pub returns-in-Err : goal.returns-in-Err
returns-in-Err g c = refuses c.args.form c.args.asked.now
    (opened_targets c.args.asked.now c.args.files.lock.now.bytes.items c.args.files.project.now.bytes.items)
    _ _ _ c.in-Err.refusal.cause c.write_refusal.ensures.printed c.write_refusal.ensures.memory c.in-Err.ensures.opened
