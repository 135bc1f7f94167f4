-- The form of the report is that of the flag.
use Rattle.std.proofs.Common.{rules, ap}
use Rattle.pylock_program.specs.Show.{opened_report}
use Rattle.pylock_run.specs.Report.{open_state}
use Rattle.pylock_command.specs.declared.task.View.TheVariants.{Plan}
use Rattle.pylock_c.specs.Answers.{reported}
use Rattle.pylock_slots.proofs.AnswerLemmas.{told_as}
use Rattle.pylock_c.proofs.answers.pylock_plan.Goals as goal

pub returns : goal.returns
returns c =
    told_as (ap (λ form. reported (opened_report Plan form (open_state c.args.lock.now c.args.environment.now))) c.form_of.ensures) (Prim.search rules)
    (c.keep_with.ensures (reported (opened_report Plan c.form_of.result (open_state c.args.lock.now c.args.environment.now))) c.report-told.ensures)
