-- The form of what is printed is that of the flag.
use Rattle.std.proofs.Common.{rules, ap, None}
use Rattle.pylock_command.specs.declared.task.FilesOutput.TheVariants.{Shown}
use Rattle.pylock_program.specs.Files.{files_report}
use Rattle.pylock_c.specs.Answers.{reported}
use Rattle.pylock_slots.proofs.AnswerLemmas.{told_as}
use Rattle.pylock_c.proofs.answers.pylock_files.Goals as goal

pub returns : goal.returns
returns c =
    told_as (ap (λ form. reported (files_report (Shown form) None c.args.lock.now)) c.form_of.ensures) (Prim.search rules)
    (c.keep_with.ensures (reported (files_report (Shown c.form_of.result) None c.args.lock.now)) c.files-told.ensures)
