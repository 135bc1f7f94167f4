-- What is printed of a refused environment is the report on the marker.
use Rattle.std.proofs.Common.{refl, Some}
use Rattle.pylock_program.specs.Inner.Machine.{machine_read}
use Rattle.pylock_program.specs.Reply.{marker_answer}
use Rattle.pylock_program.proofs.OpeningLemmas.{refused}
use Rattle.pylock_program.proofs.reply.write_marker.Goals as goal

pub returns : goal.returns
returns g c = refused (Some c.args.form) (Some c.args.form) (λ report. report)
    (marker_answer c.args.form c.args.text.now (machine_read c.args.machine.now))
    c.in-Err.refusal.cause _ _ _ refl c.write_refusal.ensures.printed c.write_refusal.ensures.memory c.in-Err.ensures
