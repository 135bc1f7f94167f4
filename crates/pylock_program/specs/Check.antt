-- What `check` prints: what differs between a project and what a lock installs on a machine.
use Rattle.std.specs.Prelude.{◌≡◌, ℕ, ◌++◌, ◌==◌, if◌then◌else◌, length, List, [], Option}
use Rattle.std.specs.Prelude.{Some, Result, Ok, Err}
use Rattle.std.specs.Result.{result_map_both}
use Rattle.pytext.specs.Results.{◌>>=◌}
use Rattle.pylock_check.specs.Head.{AreHeadDifferences}
use Rattle.pylock_check.specs.Judging.{differences}
use Rattle.pylock_check.specs.Project.{ProjectValue}
use Rattle.pylock_check.specs.Reading.{project_of}
use Rattle.pylock_check.specs.Written.{differences_rows, differences_text}
use Rattle.pylock_check.specs.declared.difference.Difference.{Difference}
use Rattle.pylock_command.specs.declared.form.Form.{Form}
use Rattle.pylock_command.specs.declared.form.Form.TheVariants.{Lines, Json}
use Rattle.pylock_command.specs.declared.task.CheckQuestion.{CheckQuestion}
use Rattle.pylock_command.specs.declared.task.View.TheVariants as view
use Rattle.pylock_core.specs.Session.State.{State}
use Rattle.pylock_core.specs.Session.Steps.{answer}
use Rattle.pylock_core.specs.declared.answer.Answer.{Answer}
use Rattle.pylock_core.specs.declared.answer.Answer.TheVariants.{Plan, Fault}
use Rattle.pylock_messages.specs.Diagnostic.{DiagnosticValue}
use Rattle.pylock_readers.specs.Environment.{EnvironmentRead}
use Rattle.pylock_run.specs.Report.{Report}
use Rattle.pylock_run.specs.Stream.{SinkValue}
use Rattle.pylock_run.specs.declared.report.fault.RunFault.{RunFault}
use Rattle.pylock_program.specs.Opening.{chosen_state, opened_by}
use Rattle.pylock_program.specs.Refusal.{PrintsTelling, report_or_refusal}
use Rattle.pylock_program.specs.Show.{view_report}
use Rattle.pylock_program.specs.Text.Json.{json_text}
use Rattle.pylock_program.specs.declared.refusal.Cause.{Cause}
use Rattle.pylock_program.specs.declared.refusal.Cause.TheVariants as cause

-- ---- the differences

abbrev pub differences_shown : Form → List Difference → List ℕ
differences_shown Lines list = differences_text list
differences_shown Json list = json_text (differences_rows list)

abbrev pub differences_report : Form → List Difference → Report
differences_report form list = record {
  text = differences_shown form list;
  status = if length list == 0 then 0 else 1;
}

-- those from the head first, and then those from the plan; a fault is printed as `plan` prints it
abbrev pub answer_check : CheckQuestion → List Difference → ProjectValue → State → Answer → Report
answer_check asked of_head project state (Plan picks) =
    differences_report asked.form (of_head ++ differences state picks project)
answer_check asked of_head project state (Fault id code) = view_report view.Plan asked.form state

-- ---- what is read

-- the project, by the bytes of its file, or its refusal
abbrev pub project_in : List ℕ → Result ProjectValue Cause
project_in bytes = result_map_both (λ project. project) cause.Project (project_of bytes)

-- the state after the options, and the project: the lock is judged first, then the environment, the
-- project, and the options
abbrev pub opened_check : CheckQuestion → List ℕ → EnvironmentRead → List ℕ
    → Result (State × ProjectValue) Cause
opened_check asked lock read bytes = do
  opened ← result_map_both (λ state. state) cause.Unopened
      (opened_by asked.opening.strict lock read)
  project ← project_in bytes
  state ← chosen_state asked.options.items opened
  Ok (state, project)

-- ---- what is printed

-- the report on what was read, from what is told of a refusal and from what differs from the head
abbrev pub check_report : CheckQuestion → List Difference → Option DiagnosticValue
    → Result (State × ProjectValue) Cause → Report
check_report asked of_head diagnostic =
    report_or_refusal (Some asked.form) diagnostic
    (λ opened. answer_check asked of_head opened.1 opened.0 (answer opened.0))

-- these differ from the head; where something is refused there are none
abbrev pub AreFromHead : Result (State × ProjectValue) Cause → List Difference → Type 0
AreFromHead (Ok opened) of_head = AreHeadDifferences opened.1 opened.0.head of_head
AreFromHead (Err because) of_head = of_head ≡ []

-- there are such differences, with which the report is printed
pub record PrintsCheck (asked : CheckQuestion) (opened : Result (State × ProjectValue) Cause)
    (sink sink' : SinkValue) (result : Result ℕ RunFault) : Type 0 where
  pub of_head : List Difference
  pub are_of_head : AreFromHead opened of_head
  pub prints : PrintsTelling (λ diagnostic. check_report asked of_head diagnostic opened)
      sink sink' result
