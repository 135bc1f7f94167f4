-- What `status` prints: the steps after which an environment has what a plan says.
use Rattle.std.specs.Prelude.{ℕ, Bool, if◌then◌else◌, List, Option, Some, Result, Ok}
use Rattle.std.specs.Result.{result_map_both}
use Rattle.pytext.specs.Results.{◌>>=◌}
use Rattle.pylock_command.specs.declared.form.Form.{Form}
use Rattle.pylock_command.specs.declared.form.Form.TheVariants.{Lines, Json}
use Rattle.pylock_command.specs.declared.task.StatusQuestion.{StatusQuestion}
use Rattle.pylock_command.specs.declared.task.View.TheVariants as view
use Rattle.pylock_core.specs.Session.State.{State}
use Rattle.pylock_core.specs.Session.Steps.{answer}
use Rattle.pylock_core.specs.declared.answer.Answer.{Answer}
use Rattle.pylock_core.specs.declared.answer.Answer.TheVariants.{Plan, Fault}
use Rattle.pylock_installed.specs.Project.{ProjectValue}
use Rattle.pylock_installed.specs.Reading.{installed_of}
use Rattle.pylock_installed.specs.Steps.{StepValue, is_done, steps}
use Rattle.pylock_installed.specs.Written.{steps_rows, steps_text}
use Rattle.pylock_messages.specs.Diagnostic.{DiagnosticValue}
use Rattle.pylock_readers.specs.Environment.{EnvironmentRead}
use Rattle.pylock_run.specs.Report.{Report}
use Rattle.pylock_program.specs.Opening.{chosen_state, opened_by}
use Rattle.pylock_program.specs.Refusal.{report_or_refusal}
use Rattle.pylock_program.specs.Show.{view_report}
use Rattle.pylock_program.specs.Text.Json.{json_text}
use Rattle.pylock_program.specs.declared.refusal.Cause.{Cause}
use Rattle.pylock_program.specs.declared.refusal.Cause.TheVariants as cause

-- ---- the steps

abbrev pub steps_shown : Form → State → List StepValue → List ℕ
steps_shown Lines state list = steps_text state list
steps_shown Json state list = json_text (steps_rows state list)

abbrev pub steps_report : Form → State → List StepValue → Report
steps_report form state list =
    record { text = steps_shown form state list; status = if is_done list then 0 else 1 }

-- the steps to a plan; a fault is printed as `plan` prints it
abbrev pub answer_status : StatusQuestion → List ProjectValue → State → Answer → Report
answer_status asked installed state (Plan picks) =
    steps_report asked.form state (steps state picks installed asked.exact)
answer_status asked installed state (Fault id code) = view_report view.Plan asked.form state

-- ---- what is read

-- what is installed, by the bytes of the list, or its refusal
abbrev pub installed_in : List ℕ → Result (List ProjectValue) Cause
installed_in list =
    result_map_both (λ projects. projects) cause.Installed (installed_of list)

-- the state after the options, and what is installed: the lock is judged first, then the
-- environment, the list, and the options
abbrev pub opened_status : StatusQuestion → List ℕ → EnvironmentRead → List ℕ
    → Result (State × List ProjectValue) Cause
opened_status asked lock read list = do
  opened ← result_map_both (λ state. state) cause.Unopened
      (opened_by asked.opening.strict lock read)
  installed ← installed_in list
  state ← chosen_state asked.options.items opened
  Ok (state, installed)

-- The report on a question, from what is told of a refusal, from the bytes of its lock, from its
-- environment as it was read, and from the bytes of the list of what is installed.
abbrev pub status_report : StatusQuestion → Option DiagnosticValue → List ℕ → EnvironmentRead
    → List ℕ → Report
status_report asked diagnostic lock read list =
    report_or_refusal (Some asked.form) diagnostic
    (λ opened. answer_status asked opened.1 opened.0 (answer opened.0))
    (opened_status asked lock read list)
