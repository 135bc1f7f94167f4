-- What is printed of a refusal is the report on the question.
use Rattle.pylock_program.specs.Check.{opened_check}
use Rattle.pylock_program.specs.Inner.Machine.{machine_read}
use Rattle.pylock_program.proofs.CheckLemmas.{refuses}
use Rattle.pylock_program.proofs.check.write_check.Goals as goal

pub returns-in-Err : goal.returns-in-Err
returns-in-Err g c = refuses c.args.asked.now
    (opened_check c.args.asked.now c.args.inputs.lock.now.bytes.items (machine_read c.args.inputs.machine.now) c.args.file.now.bytes.items)
    _ _ _ c.in-Err.refusal.cause c.write_refusal.ensures.printed c.write_refusal.ensures.memory c.in-Err.ensures
