-- What is printed of a refusal is why there is no run.
use Rattle.std.proofs.Common.{refl}
use Rattle.pylock_program.specs.Inner.Machine.{machine_read}
use Rattle.pylock_program.specs.Opening.{opened_by}
use Rattle.pylock_program.proofs.OpeningLemmas.{refused_runs}
use Rattle.pylock_program.proofs.select.run_on.Goals as goal

pub returns-in-Err : goal.returns-in-Err
returns-in-Err g c = refused_runs c.args.form (opened_by c.args.strict c.args.inputs.lock.now.bytes.items (machine_read c.args.inputs.machine.now)) _ _ _ _ _
    c.in-Err.refusal.cause c.write_refusal.ensures.printed c.write_refusal.ensures.memory c.in-Err.ensures refl
