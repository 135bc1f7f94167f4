-- What `check --matrix` prints: what differs between a project and what a lock installs on each of
-- many targets.
use Rattle.std.specs.Prelude.{◌≡◌, ◌==◌, ℕ, false, if◌then◌else◌, length, List, [], map}
use Rattle.std.specs.Prelude.{Option, Some, Result, Ok, Err}
use Rattle.pytext.specs.Results.{◌>>=◌}
use Rattle.pylock_check.specs.Head.{AreHeadDifferences}
use Rattle.pylock_check.specs.Project.{ProjectValue}
use Rattle.pylock_check.specs.Targets.{check_on, target_checks_rows, target_checks_text}
use Rattle.pylock_check.specs.Targets.{target_lines}
use Rattle.pylock_check.specs.declared.difference.Difference.{Difference}
use Rattle.pylock_check.specs.declared.targets.TargetCheck.{TargetCheck}
use Rattle.pylock_command.specs.declared.form.Form.{Form}
use Rattle.pylock_command.specs.declared.form.Form.TheVariants.{Lines, Json}
use Rattle.pylock_command.specs.declared.task.CheckMatrixQuestion.{CheckMatrixQuestion}
use Rattle.pylock_command.specs.declared.task.MatrixOutput.TheVariants.{Rows}
use Rattle.pylock_command.specs.declared.task.MatrixQuestion.{MatrixQuestion}
use Rattle.pylock_core.specs.Session.State.{State}
use Rattle.pylock_matrix.specs.Cell.{CellValue}
use Rattle.pylock_messages.specs.Diagnostic.{DiagnosticValue}
use Rattle.pylock_run.specs.Report.{Report}
use Rattle.pylock_run.specs.Stream.{SinkValue}
use Rattle.pylock_run.specs.declared.report.fault.RunFault.{RunFault}
use Rattle.pylock_program.specs.Check.{project_in}
use Rattle.pylock_program.specs.Matrix.{asked_settings, opened_matrix}
use Rattle.pylock_program.specs.Refusal.{PrintsTelling, report_or_refusal}
use Rattle.pylock_program.specs.Text.Json.{json_text}
use Rattle.pylock_program.specs.declared.refusal.Cause.{Cause}

-- what `matrix` is asked with the same words
abbrev pub as_matrix : CheckMatrixQuestion → MatrixQuestion
as_matrix asked = record {
  lock = asked.lock;
  pythons = asked.pythons;
  platforms = asked.platforms;
  options = asked.options;
  strict = asked.strict;
  no_build = false;
  output = Rows asked.form;
}

-- a session on the first target, after the options, and all targets; and the project
abbrev pub Begun : Type 0
Begun = (State × List CellValue) × ProjectValue

-- the lock is judged first, then the targets, the options and the project
abbrev pub opened_targets : MatrixQuestion → List ℕ → List ℕ → Result Begun Cause
opened_targets asked lock bytes = do
  begun ← opened_matrix asked lock
  project ← project_in bytes
  Ok (begun, project)

-- what differs on each target
abbrev pub checks_of : MatrixQuestion → Begun → List TargetCheck
checks_of asked begun =
    map (check_on (asked_settings asked.options.items) begun.0.0 begun.1) begun.0.1

abbrev pub checks_shown : Form → List Difference → List TargetCheck → List ℕ
checks_shown Lines of_head checks = target_checks_text of_head checks
checks_shown Json of_head checks = json_text (target_checks_rows of_head checks)

-- 0: nothing differs
abbrev pub checks_report : Form → List Difference → List TargetCheck → Report
checks_report form of_head checks = record {
  text = checks_shown form of_head checks;
  status = if length (target_lines of_head checks) == 0 then 0 else 1;
}

abbrev pub targets_report : Form → MatrixQuestion → List Difference → Option DiagnosticValue
    → Result Begun Cause → Report
targets_report form asked of_head diagnostic =
    report_or_refusal (Some form) diagnostic
    (λ begun. checks_report form of_head (checks_of asked begun))

-- these differ from the head; where something is refused there are none
abbrev pub AreFromHead : Result Begun Cause → List Difference → Type 0
AreFromHead (Ok begun) of_head = AreHeadDifferences begun.1 begun.0.0.head of_head
AreFromHead (Err because) of_head = of_head ≡ []

-- there are such differences, with which the report is printed
pub record PrintsTargets (form : Form) (asked : MatrixQuestion) (opened : Result Begun Cause)
    (sink sink' : SinkValue) (result : Result ℕ RunFault) : Type 0 where
  pub of_head : List Difference
  pub are_of_head : AreFromHead opened of_head
  pub prints : PrintsTelling (λ diagnostic. targets_report form asked of_head diagnostic opened)
      sink sink' result
