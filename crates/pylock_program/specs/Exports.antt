-- What `plan`, `files` and `matrix` print in the form of another tool. Where there is a fault, or
-- the form can't hold what is asked for, standard output stays empty.
use Rattle.std.specs.Prelude.{ℕ, List, Option, Result, Ok, Err}
use Rattle.pylock_command.specs.declared.base.Base.{Base}
use Rattle.pylock_command.specs.declared.form.FileFormat.{FileFormat}
use Rattle.pylock_command.specs.declared.form.PlanFormat.{PlanFormat}
use Rattle.pylock_command.specs.declared.form.PlanFormat.TheVariants.{Files}
use Rattle.pylock_core.specs.Session.State.{State}
use Rattle.pylock_core.specs.declared.answer.Answer.{Answer}
use Rattle.pylock_core.specs.declared.answer.Answer.TheVariants.{Plan, Fault}
use Rattle.pylock_core.specs.declared.answer.Pick.{Pick}
use Rattle.pylock_exports.specs.Base.{on_base}
use Rattle.pylock_exports.specs.Given.{given_sources}
use Rattle.pylock_exports.specs.Listed.{plan_sources}
use Rattle.pylock_exports.specs.Texts.{format_text}
use Rattle.pylock_exports.specs.declared.listed.GivenSource.{GivenSource}
use Rattle.pylock_exports.specs.declared.refusal.ExportError.{ExportError}
use Rattle.pylock_run.specs.Report.{Report}
use Rattle.pylock_program.specs.Refusal.{silence}

-- a text in a form, with this status, or nothing where the form can't hold it
abbrev pub exported : ℕ → Result (List ℕ) ExportError → Report
exported status (Ok text) = record { text = text; status = status }
exported status (Err refusal) = silence 1

-- a plan, its URLs on the base that there may be
abbrev pub answer_exported : PlanFormat → Option Base → State → Answer → Report
answer_exported form base state (Plan picks) =
    exported 0 (format_text form (on_base base (plan_sources state picks)))
answer_exported form base state (Fault id code) = silence 1

-- these sources
abbrev pub given_exported : FileFormat → Option Base → List GivenSource → Report
given_exported form base given =
    exported 0 (format_text (Files form) (on_base base (given_sources given)))

-- the sources that picks name, their URLs on the base that there may be, with this status
abbrev pub picks_exported : ℕ → FileFormat → Option Base → State → List Pick → Report
picks_exported status form base state picks =
    exported status (format_text (Files form) (on_base base (plan_sources state picks)))
