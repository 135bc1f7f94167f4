-- What is printed of a refusal is the report on both plans.
use Rattle.std.proofs.Common.{refl, Some}
use Rattle.pylock_core.specs.Session.Steps.{answer}
use Rattle.pylock_diff.specs.Changes.{answer_changes}
use Rattle.pylock_program.specs.Diff.{changes_report, plans_state}
use Rattle.pylock_program.specs.Inner.Machine.{machine_read}
use Rattle.pylock_program.proofs.OpeningLemmas.{refused}
use Rattle.pylock_program.proofs.diff.write_plan_diff.Goals as goal

pub returns-in-Err : goal.returns-in-Err
returns-in-Err g c = refused (Some c.args.form) (Some c.args.form)
    (λ both. changes_report c.args.form (answer_changes both.0 both.1 (answer both.0) (answer both.1)))
    (plans_state c.args.plans.options.now c.args.plans.sides.old.now.bytes.items c.args.plans.sides.new.now.bytes.items (machine_read c.args.plans.machine.now))
    c.in-Err.refusal.cause _ _ _ refl c.write_refusal.ensures.printed c.write_refusal.ensures.memory c.in-Err.ensures
