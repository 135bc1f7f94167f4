-- What `plan` and `explain` show of a lock on a machine.
use Rattle.std.specs.Prelude.{ℕ, Bool, List, if◌then◌else◌, Option, Some, None, Result, Ok, Err}
use Rattle.pylock_command.specs.declared.form.Form.{Form}
use Rattle.pylock_command.specs.declared.form.Form.TheVariants.{Lines, Json}
use Rattle.pylock_command.specs.declared.option.PlanOption.{PlanOption}
use Rattle.pylock_command.specs.declared.task.Output.{Output}
use Rattle.pylock_command.specs.declared.task.Output.TheVariants as output
use Rattle.pylock_command.specs.declared.task.Question.{Question}
use Rattle.pylock_command.specs.declared.task.View.{View}
use Rattle.pylock_command.specs.declared.task.View.TheVariants.{Plan, Explain}
use Rattle.pylock_core.specs.Session.State.{State}
use Rattle.pylock_core.specs.Session.Steps.{answer}
use Rattle.pylock_core.specs.declared.answer.Answer.{Answer}
use Rattle.pylock_readers.specs.Environment.{EnvironmentRead}
use Rattle.pylock_documents.specs.Documents.{answer_rows, explain_rows}
use Rattle.pylock_messages.specs.Diagnostic.{DiagnosticValue}
use Rattle.pylock_run.specs.Report.{Report, Shown, as_lines, is_plan}
use Rattle.pylock_run.specs.Text.Plan.{answer_text}
use Rattle.pylock_run.specs.declared.report.opening.OpenError.{OpenError}
use Rattle.pylock_program.specs.Bill.{answer_billed}
use Rattle.pylock_program.specs.Exports.{answer_exported}
use Rattle.pylock_program.specs.Left.{left_answer}
use Rattle.pylock_program.specs.Opening.{question_state}
use Rattle.pylock_program.specs.Refusal.{refusal_printed, report_or_refusal}
use Rattle.pylock_program.specs.Text.Explain.{explain_text}
use Rattle.pylock_program.specs.Text.Json.{json_text, line_refusal_json, refusal_json}

-- an answer, and what becomes of each entry
abbrev pub answer_shown : Form → State → Answer → List ℕ
answer_shown Lines state answer = answer_text state answer
answer_shown Json state answer = json_text (answer_rows state answer)

abbrev pub explain_shown : Form → State → List ℕ
explain_shown Lines state = explain_text state
explain_shown Json state = json_text (explain_rows state)

abbrev pub shown : View → Form → State → Answer → List ℕ
shown Plan form state answer = answer_shown form state answer
shown Explain form state answer = explain_shown form state

abbrev pub shown_report : View → Form → State → Answer → Report
shown_report view form state answer = record {
  text = shown view form state answer;
  status = if is_plan answer then 0 else 1;
}

-- the same of the answer as it stands
abbrev pub plan_shown : Form → State → List ℕ
plan_shown form state = answer_shown form state (answer state)

abbrev pub view_shown : View → Form → State → List ℕ
view_shown view form state = shown view form state (answer state)

abbrev pub view_report : View → Form → State → Report
view_report view form state = shown_report view form state (answer state)

-- the same where a lock and an environment are opened, or their refusal, of which nothing is told
abbrev pub opened_report : View → Form → Result State OpenError → Report
opened_report view form (Ok state) = view_report view form state
opened_report view form (Err refusal) =
    record { text = refusal_printed form None refusal; status = 2 }

-- ---- runs

-- how a run prints documents, each on a line; of a refusal nothing is told beside its words
abbrev pub as_documents : Shown
as_documents = record {
  answer = plan_shown Json;
  line = line_refusal_json;
  unopened = λ refusal. refusal_json refusal None;
}

abbrev pub run_shown : Form → Shown
run_shown Lines = as_lines
run_shown Json = as_documents

-- ---- questions

-- what is asked for of an answer, in a state that the bytes of a lock gave
abbrev pub answer_report : Output → List ℕ → State → Answer → Report
answer_report (output.View view form) lock state answer = shown_report view form state answer
answer_report (output.Tool format base) lock state answer =
    answer_exported format base state answer
answer_report (output.Bill format) lock state answer = answer_billed format lock state answer

-- the same of what the options leave of the answer
abbrev pub output_report : List PlanOption → Output → List ℕ → State → Report
output_report options output lock state =
    answer_report output lock state (left_answer options state (answer state))

-- the form in which a refusal is printed; none where the answer would be for another tool
abbrev pub output_form : Output → Option Form
output_form (output.View view form) = Some form
output_form (output.Tool format base) = None
output_form (output.Bill format) = None

-- The report on a question, from what is told of a refusal, from the bytes of its lock and from its
-- environment as it was read.
abbrev pub question_report : Question → Option DiagnosticValue → List ℕ → EnvironmentRead → Report
question_report question diagnostic lock read =
    report_or_refusal (output_form question.output) diagnostic
    (output_report question.options.items question.output lock)
    (question_state question lock read)

-- the same question with or without `--strict`
abbrev pub with_strict : Bool → Question → Question
with_strict strict question =
    record question { opening = record question.opening { strict = strict } }
