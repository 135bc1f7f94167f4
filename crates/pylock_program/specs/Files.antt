-- What `files` prints of one lock, or of several.
use Rattle.std.specs.Prelude.{ℕ, ◌+◌, ◌++◌, ◌&&◌, Bool, true, false, not, List, [], ◌∷◌, find}
use Rattle.std.specs.Prelude.{if◌then◌else◌, length, map, nat_lt, Option, Some, None}
use Rattle.std.specs.Prelude.{Result, Ok, Err}
use Rattle.std.specs.List.{flat_map, list_any}
use Rattle.std.specs.Option.{option_map_or}
use Rattle.std.specs.Result.{result_map_both}
use Rattle.pytext.specs.Results.{◌>>=◌}
use Rattle.pyver_core.specs.Name.{is_name}
use Rattle.pylock_command.specs.declared.base.Base.{Base}
use Rattle.pylock_command.specs.declared.form.FileFormat.{FileFormat}
use Rattle.pylock_command.specs.declared.form.Form.{Form}
use Rattle.pylock_command.specs.declared.form.Form.TheVariants.{Lines, Json}
use Rattle.pylock_command.specs.declared.form.PlanFormat.TheVariants as format
use Rattle.pylock_command.specs.declared.option.PlanOption.{PlanOption}
use Rattle.pylock_command.specs.declared.option.PlanOption.TheVariants.{Except, Only}
use Rattle.pylock_command.specs.declared.task.FilesOutput.{FilesOutput}
use Rattle.pylock_command.specs.declared.task.FilesOutput.TheVariants.{Shown, Tool}
use Rattle.pylock_command.specs.declared.task.FilesQuestion.{FilesQuestion}
use Rattle.pylock_exports.specs.Base.{on_base}
use Rattle.pylock_exports.specs.Listed.{ListedValue, listed}
use Rattle.pylock_exports.specs.Texts.{format_text}
use Rattle.pylock_messages.specs.Diagnostic.{DiagnosticValue}
use Rattle.pylock_metadata.specs.Lock.{described_of}
use Rattle.pylock_metadata.specs.Metadata.{EntryValue}
use Rattle.pylock_readers.specs.Lock.{LockValue}
use Rattle.pylock_readers.specs.Lock.Reading.{lock_of}
use Rattle.pylock_readers.specs.declared.error.LockError.{LockError}
use Rattle.pylock_run.specs.Report.{Report}
use Rattle.pylock_run.specs.declared.report.opening.OpenError.TheVariants as open_error
use Rattle.pylock_union.specs.Document.{listed_rows}
use Rattle.pylock_union.specs.Listed.{LockSourceValue, sources_from}
use Rattle.pylock_union.specs.Text.{listed_text}
use Rattle.pylock_union.specs.Union.{united}
use Rattle.pylock_program.specs.Exports.{exported}
use Rattle.pylock_program.specs.Left.{is_left}
use Rattle.pylock_program.specs.PlanOptions.{is_named}
use Rattle.pylock_program.specs.Refusal.{report_or_refusal}
use Rattle.pylock_program.specs.Text.Json.{json_text}
use Rattle.pylock_program.specs.declared.opening.Unopened.TheVariants.{Refused}
use Rattle.pylock_program.specs.declared.refusal.Cause.{Cause}
use Rattle.pylock_program.specs.declared.refusal.Cause.TheVariants as cause

-- ---- what is read

-- a lock, with what it says of its files besides, where that is shown
abbrev pub ReadValue : Type 0
ReadValue = LockValue × Option (List EntryValue)

abbrev pub lock_cause : LockError → Cause
lock_cause error = cause.Unopened (Refused (open_error.Lock error))

abbrev pub lock_by : (described : Bool) → List ℕ → Result ReadValue LockError
lock_by true bytes =
    result_map_both (λ read. (read.0, Some read.1)) (λ error. error) (described_of bytes)
lock_by false bytes = result_map_both (λ lock. (lock, None)) (λ error. error) (lock_of bytes)

abbrev pub lock_in : (described : Bool) → List ℕ → Result ReadValue Cause
lock_in described bytes =
    result_map_both (λ lock. lock) lock_cause (lock_by described bytes)

-- those that were read before, and behind them those of files
unfoldable pub locks_from : List ReadValue → (described : Bool) → List (List ℕ)
    → Result (List ReadValue) Cause
locks_from before described [] = Ok before
locks_from before described (bytes ∷ files) =
    lock_in described bytes
    >>= (λ lock. locks_from (before ++ lock ∷ []) described files)

-- the document tells what a lock says of its files besides
abbrev pub is_described : FilesOutput → Bool
is_described (Shown Json) = true
is_described output = false

-- ---- which sources

-- those of each lock, the first of which has this number
abbrev pub listed_from : ℕ → List ReadValue → List LockSourceValue
listed_from number [] = []
listed_from number (lock ∷ locks) =
    sources_from number lock.1 0 lock.0.entries ++ listed_from (number + 1) locks

-- those that the options leave
abbrev pub left_source : List PlanOption → LockSourceValue → List LockSourceValue
left_source options source = if is_left options source.entry then source ∷ [] else []

abbrev pub left_sources : List PlanOption → List LockSourceValue → List LockSourceValue
left_sources options list = flat_map (left_source options) list

-- of several locks each file once, unless two of one name differ
abbrev pub united_if : (several : Bool) → List LockSourceValue
    → Result (List LockSourceValue) Cause
united_if true list = result_map_both (λ list. list) (λ clash. cause.Clash clash) (united list)
united_if false list = Ok list

-- the text of an option is a name that an entry of some lock has
abbrev pub has_name : List ReadValue → List ℕ → Bool
has_name locks name =
    is_name name && list_any (λ lock. list_any (is_named name) lock.0.entries) locks

abbrev pub names_some : List ReadValue → PlanOption → Bool
names_some locks (Only name) = has_name locks name.now
names_some locks (Except name) = has_name locks name.now
names_some locks option = true

-- the first option that names none is refused
abbrev pub chosen_sources : (several : Bool) → List PlanOption → List ReadValue
    → Result (List LockSourceValue) Cause
chosen_sources several options locks =
    option_map_or (λ option. Err (cause.Option option))
    (find (λ option. not (names_some locks option)) options)
    (united_if several (left_sources options (listed_from 1 locks)))

-- ---- what is printed

abbrev pub sources_shown : Form → (several : Bool) → List LockSourceValue → List ℕ
sources_shown Lines several list = listed_text several list
sources_shown Json several list = json_text (listed_rows several list)

-- a source as the forms of other tools have it
abbrev pub form_source : LockSourceValue → ListedValue
form_source source = listed source.number source.entry source.source

abbrev pub sources_exported : FileFormat → Option Base → List LockSourceValue → Report
sources_exported form base list =
    exported 0 (format_text (format.Files form) (on_base base (map form_source list)))

abbrev pub sources_report : FilesOutput → (several : Bool) → List LockSourceValue → Report
sources_report (Shown form) several list =
    record { text = sources_shown form several list; status = 0 }
sources_report (Tool form base) several list = sources_exported form base list

-- the form in which a refusal is printed; none where the sources would be for another tool
abbrev pub files_form : FilesOutput → Option Form
files_form (Shown form) = Some form
files_form (Tool format base) = None

-- the report on the bytes of locks, from what is told of a refusal
abbrev pub lists_report : FilesOutput → (several : Bool) → List PlanOption
    → Option DiagnosticValue → List (List ℕ) → Report
lists_report output several options diagnostic files =
    report_or_refusal (files_form output) diagnostic (sources_report output several)
    (locks_from [] (is_described output) files >>= chosen_sources several options)

-- one lock
abbrev pub files_report : FilesOutput → Option DiagnosticValue → List ℕ → Report
files_report output diagnostic bytes = lists_report output false [] diagnostic (bytes ∷ [])

-- the locks that are asked for
abbrev pub is_several : FilesQuestion → Bool
is_several asked = nat_lt 0 (length asked.others.items)

abbrev pub question_lists : FilesQuestion → Option DiagnosticValue → List (List ℕ) → Report
question_lists asked diagnostic files =
    lists_report asked.output (is_several asked) asked.options.items diagnostic files
