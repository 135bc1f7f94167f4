-- What is printed of a refusal is the report on the question.
use Rattle.pylock_program.specs.Inner.Machine.{machine_read}
use Rattle.pylock_program.specs.Opening.{question_state}
use Rattle.pylock_program.specs.Show.{output_form, output_report}
use Rattle.pylock_program.proofs.OpeningLemmas.{refused}
use Rattle.pylock_program.proofs.show.write_answer.Goals as goal

pub returns-in-Err : goal.returns-in-Err
returns-in-Err g c = refused (output_form c.args.question.now.output) c.output_form.result (output_report c.args.question.now.options.items c.args.question.now.output c.args.inputs.lock.now.bytes.items)
    (question_state c.args.question.now c.args.inputs.lock.now.bytes.items (machine_read c.args.inputs.machine.now))
    c.in-Err.refusal.cause _ _ _ c.output_form.ensures c.write_refusal.ensures.printed c.write_refusal.ensures.memory c.in-Err.ensures
