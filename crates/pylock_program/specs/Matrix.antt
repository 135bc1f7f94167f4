-- What `matrix` prints: for each target a row, which tells what `plan` answers there; or the files
-- that the targets take.
use Rattle.std.specs.Prelude.{ℕ, Bool, true, false, if◌then◌else◌, List, [], ◌∷◌, map}
use Rattle.std.specs.Prelude.{Option, Some, None, Result, Ok, Err}
use Rattle.std.specs.Borrow.{Bor}
use Rattle.std.specs.List.{flat_map, list_all}
use Rattle.std.specs.Option.{option_map_or}
use Rattle.std.specs.Result.{result_map_both}
use Rattle.pytext.specs.Results.{◌>>=◌}
use Rattle.pylock_audit.specs.Finding.{LockFindingValue}
use Rattle.pylock_command.specs.declared.form.Form.{Form}
use Rattle.pylock_command.specs.declared.form.Form.TheVariants.{Lines, Json}
use Rattle.pylock_command.specs.declared.option.PlanOption.{PlanOption}
use Rattle.pylock_command.specs.declared.option.PlanOption.TheVariants as option
use Rattle.pylock_command.specs.declared.task.FilesOutput.{FilesOutput}
use Rattle.pylock_command.specs.declared.task.FilesOutput.TheVariants.{Shown, Tool}
use Rattle.pylock_command.specs.declared.task.MatrixOutput.{MatrixOutput}
use Rattle.pylock_command.specs.declared.task.MatrixOutput.TheVariants.{Files, Rows}
use Rattle.pylock_command.specs.declared.task.MatrixQuestion.{MatrixQuestion}
use Rattle.pylock_core.specs.Session.State.{State}
use Rattle.pylock_core.specs.declared.answer.Pick.{Pick}
use Rattle.pylock_documents.specs.Documents.{picked_rows}
use Rattle.pylock_matrix.specs.Cell.{CellValue, cells_of, words_in}
use Rattle.pylock_matrix.specs.Defaults.{default_platforms, default_pythons}
use Rattle.pylock_matrix.specs.Document.{matrix_members}
use Rattle.pylock_matrix.specs.Files.{files_on}
use Rattle.pylock_matrix.specs.Moving.{first_on}
use Rattle.pylock_matrix.specs.Row.{row_of}
use Rattle.pylock_matrix.specs.Text.{rows_text}
use Rattle.pylock_matrix.specs.declared.cell.CellError.{CellError}
use Rattle.pylock_matrix.specs.declared.cell.CellError.TheVariants as cell
use Rattle.pylock_matrix.specs.declared.outcome.Outcome.{Outcome}
use Rattle.pylock_matrix.specs.declared.outcome.Outcome.TheVariants.{Plan, Fault}
use Rattle.pylock_matrix.specs.declared.row.Row.{Row}
use Rattle.pylock_matrix.specs.declared.setting.Setting.{Setting}
use Rattle.pylock_messages.specs.Diagnostic.{DiagnosticValue}
use Rattle.pylock_readers.specs.Lock.{HeadValue, LockValue}
use Rattle.pylock_readers.specs.Lock.Reading.{lock_of}
use Rattle.pylock_readers.specs.Target.{target_env_of}
use Rattle.pylock_readers.specs.declared.error.EnvError.{EnvError}
use Rattle.pylock_readers.specs.declared.error.EnvError.TheVariants as env
use Rattle.pylock_readers.specs.declared.error.LockError.{LockError}
use Rattle.pylock_run.specs.Report.{Report}
use Rattle.pylock_run.specs.declared.report.opening.OpenError.TheVariants.{Environment, Lock}
use Rattle.pylock_program.specs.Exports.{picks_exported}
use Rattle.pylock_program.specs.Files.{files_form}
use Rattle.pylock_program.specs.Opening.{chosen_state, found_by, opened_by}
use Rattle.pylock_program.specs.PlanOptions.{setting_of}
use Rattle.pylock_program.specs.Refusal.{out_of_memory, report_or_refusal}
use Rattle.pylock_program.specs.Text.Files.{picked_text}
use Rattle.pylock_program.specs.Text.Json.{json_text}
use Rattle.pylock_program.specs.declared.opening.Unopened.{Unopened}
use Rattle.pylock_program.specs.declared.opening.Unopened.TheVariants.{Findings, Refused}
use Rattle.pylock_program.specs.declared.refusal.Cause.{Cause}
use Rattle.pylock_program.specs.declared.refusal.Cause.TheVariants as cause

-- ---- the lock

-- the lock, unless there are findings that count against it
abbrev pub lock_unless : List LockFindingValue → Result LockValue LockError
    → Result LockValue Unopened
lock_unless [] lock = result_map_both (λ lock. lock) (λ error. Refused (Lock error)) lock
lock_unless (one ∷ others) lock = Err (Findings (one ∷ others))

-- the lock that the bytes are, which is taken strictly, or isn't
abbrev pub lock_by : Bool → List ℕ → Result LockValue Cause
lock_by strict bytes =
    result_map_both (λ lock. lock) cause.Unopened
    (lock_unless (found_by strict bytes) (lock_of bytes))

-- ---- the targets

-- the words that are asked for, or else those that stand for none
abbrev pub words_or : List (List ℕ) → Option (Bor (List ℕ)) → List (List ℕ)
words_or others None = others
words_or others (Some text) = words_in text.now

-- the refusal of an environment
abbrev pub refused_as : EnvError → Cause
refused_as error = cause.Unopened (Refused (Environment error))

-- why there are no targets: one has a Python or a platform that is none
abbrev pub cell_cause : CellError → Cause
cell_cause (cell.Python word) = refused_as env.Python
cell_cause (cell.Platform word) = refused_as env.Platform
cell_cause cell.Memory = out_of_memory

-- the targets that are asked for, of a lock with this head
abbrev pub asked_cells : MatrixQuestion → HeadValue → Result (List CellValue) Cause
asked_cells asked head =
    result_map_both (λ cells. cells) cell_cause
    (cells_of (words_or (default_pythons head.requires_python) asked.pythons)
    (words_or default_platforms asked.platforms))

-- the first of them; without any there is no Python
abbrev pub first_of : List CellValue → Result CellValue Cause
first_of [] = Err (refused_as env.Python)
first_of (cell ∷ cells) = Ok cell

-- ---- the rows

-- what the options set on each target, in order
abbrev pub option_settings : PlanOption → List Setting
option_settings (option.Set text) =
    option_map_or (λ setting. setting ∷ []) (setting_of text.now) []
option_settings _ = []

abbrev pub asked_settings : List PlanOption → List Setting
asked_settings options = flat_map option_settings options

-- the state after the options on the first target, and all targets
abbrev pub begun : MatrixQuestion → List CellValue → LockValue
    → Result (State × List CellValue) Cause
begun asked cells lock = do
  cell ← first_of cells
  state ← chosen_state asked.options.items (first_on cell.target lock)
  Ok (state, cells)

-- the same from the bytes of a lock: the lock is judged before the targets, and these before an
-- option
abbrev pub opened_matrix : MatrixQuestion → List ℕ → Result (State × List CellValue) Cause
opened_matrix asked bytes = do
  lock ← lock_by asked.strict bytes
  cells ← asked_cells asked lock.head
  begun asked cells lock

-- the row of each target, from the state on the first of them
abbrev pub rows_from : MatrixQuestion → State × List CellValue → List Row
rows_from asked begun = map (row_of (asked_settings asked.options.items) begun.0) begun.1

-- the files that the targets take, each once, from the same state
abbrev pub files_from : MatrixQuestion → State × List CellValue → List Pick
files_from asked begun = files_on (asked_settings asked.options.items) begun.0 begun.1

-- ---- beside `plan`

-- the state that `plan` opens with the words of a target and the same options
abbrev pub plan_state : MatrixQuestion → List ℕ → CellValue → Result State Cause
plan_state asked bytes cell =
    result_map_both (λ state. state) cause.Unopened
    (opened_by asked.strict bytes (target_env_of cell.python cell.platform))
    >>= chosen_state asked.options.items

-- ---- what is printed

abbrev pub is_empty : List ℕ → Bool
is_empty [] = true
is_empty (number ∷ numbers) = false

-- a plan, of which with `--no-build` nothing is built
abbrev pub is_met : Bool → Outcome → Bool
is_met no_build (Plan count built) = if no_build then is_empty built else true
is_met no_build (Fault id code) = false

abbrev pub rows_status : Bool → List Row → ℕ
rows_status no_build rows =
    if list_all (λ row. is_met no_build row.outcome) rows then 0 else 1

abbrev pub rows_shown : Form → List Row → List ℕ
rows_shown Lines rows = rows_text rows
rows_shown Json rows = json_text (matrix_members rows)

abbrev pub rows_report : Form → ℕ → List Row → Report
rows_report form status rows = record { text = rows_shown form rows; status = status }

-- the files that picks name, as `files` prints those of a lock
abbrev pub picked_shown : Form → State → List Pick → List ℕ
picked_shown Lines state picks = picked_text state picks
picked_shown Json state picks = json_text (picked_rows state picks)

abbrev pub picked_report : FilesOutput → ℕ → State → List Pick → Report
picked_report (Shown form) status state picks =
    record { text = picked_shown form state picks; status = status }
picked_report (Tool format base) status state picks =
    picks_exported status format base state picks

-- whatever is printed, the rows give the status
abbrev pub targets_report : MatrixOutput → ℕ → MatrixQuestion → State × List CellValue → Report
targets_report (Rows form) status asked begun = rows_report form status (rows_from asked begun)
targets_report (Files output) status asked begun =
    picked_report output status begun.0 (files_from asked begun)

abbrev pub begun_report : MatrixQuestion → State × List CellValue → Report
begun_report asked begun =
    targets_report asked.output (rows_status asked.no_build (rows_from asked begun)) asked begun

-- the form in which a refusal is printed; none where the files would be for another tool
abbrev pub matrix_form : MatrixOutput → Option Form
matrix_form (Rows form) = Some form
matrix_form (Files output) = files_form output

-- the report on a question, from what is told of a refusal, and from the bytes of its lock
abbrev pub matrix_report : MatrixQuestion → Option DiagnosticValue → List ℕ → Report
matrix_report asked diagnostic bytes =
    report_or_refusal (matrix_form asked.output) diagnostic (begun_report asked)
    (opened_matrix asked bytes)
