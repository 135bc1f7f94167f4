-- The form is the one that was asked for.
use Rattle.std.proofs.Common.{rules, subst}
use Rattle.pylock_command.specs.declared.form.Form.{Form}
use Rattle.pylock_slots.specs.Runs.{Ends}
use Rattle.pylock_slots.specs.Slot.{object}
use Rattle.pylock_c.proofs.runs.pylock_run_end.Goals as goal

pub returns-clause-ended : goal.returns-clause-ended
returns-clause-ended c = λ ok.
    subst (λ (f : Form). Ends f (object c.args.run.now) (object c.end_run_in.new.output) c.end_run_in.new.status) c.form_of.ensures
    (c.end_run_in.ensures.ended (Prim.search rules))
