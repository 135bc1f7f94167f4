-- What is printed of a refusal is the report on the question.
use Rattle.std.proofs.Common.{refl, Some}
use Rattle.pylock_core.specs.Session.Steps.{answer}
use Rattle.pylock_program.specs.Inner.Machine.{machine_read}
use Rattle.pylock_program.specs.Status.{answer_status, opened_status}
use Rattle.pylock_program.proofs.OpeningLemmas.{refused}
use Rattle.pylock_program.proofs.status.write_status.Goals as goal

pub returns-in-Err : goal.returns-in-Err
returns-in-Err g c = refused (Some c.args.asked.now.form) (Some c.args.asked.now.form)
    (λ opened. answer_status c.args.asked.now opened.1 opened.0 (answer opened.0))
    (opened_status c.args.asked.now c.args.inputs.lock.now.bytes.items (machine_read c.args.inputs.machine.now) c.args.list.now.bytes.items)
    c.in-Err.refusal.cause _ _ _ refl c.write_refusal.ensures.printed c.write_refusal.ensures.memory c.in-Err.ensures
