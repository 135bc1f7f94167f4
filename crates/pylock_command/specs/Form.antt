-- The form of an answer, in clap's terms.
use Rattle.std.specs.Prelude.{◌≡◌, ◌&&◌, if◌then◌else◌, List, [], ◌∷◌, Option, Some, None, codes}
use Rattle.std.specs.Prelude.{false, is_some, option_and_then, option_map, true}
use Rattle.std.specs.Str.{bytes_eq}
use Rattle.clap.specs.Words.{Row, Text, first_of}
use Rattle.pylock_command.specs.Base.{IsBase, base_misuse}
use Rattle.pylock_command.specs.Created.{is_created}
use Rattle.pylock_command.specs.Misuse.{first}
use Rattle.pylock_command.specs.Texts.{HasText, has_flag}
use Rattle.pylock_command.specs.declared.form.BillFormat.TheVariants as bill
use Rattle.pylock_command.specs.declared.form.FileFormat.{FileFormat}
use Rattle.pylock_command.specs.declared.form.FileFormat.TheVariants.{Aria2, Sha256sum, Urls}
use Rattle.pylock_command.specs.declared.form.Form.{Form}
use Rattle.pylock_command.specs.declared.form.Form.TheVariants.{Json, Lines}
use Rattle.pylock_command.specs.declared.form.PlanForm.{PlanForm}
use Rattle.pylock_command.specs.declared.form.PlanForm.TheVariants.{CycloneDx, Spdx, Tool}
use Rattle.pylock_command.specs.declared.form.PlanFormat.{PlanFormat}
use Rattle.pylock_command.specs.declared.form.PlanFormat.TheVariants.{Files, Requirements}
use Rattle.pylock_command.specs.declared.form.PlanFormat.TheVariants.{RequirementsLocal}
use Rattle.pylock_command.specs.declared.misuse.Misuse.{Misuse}
use Rattle.pylock_command.specs.declared.misuse.Misuse.TheVariants.{BadTime, FormatOfRows}
use Rattle.pylock_command.specs.declared.misuse.Misuse.TheVariants.{NoAuditFormat, NoFileFormat}
use Rattle.pylock_command.specs.declared.misuse.Misuse.TheVariants.{NoPlanFormat}
use Rattle.pylock_command.specs.declared.misuse.Misuse.TheVariants.{NoTime, StrayTime, TwoForms}
use Rattle.pylock_command.specs.declared.task.AuditOutput.{AuditOutput}
use Rattle.pylock_command.specs.declared.task.AuditOutput.TheVariants as audit
use Rattle.pylock_command.specs.declared.task.FilesOutput.{FilesOutput}
use Rattle.pylock_command.specs.declared.task.FilesOutput.TheVariants as files
use Rattle.pylock_command.specs.declared.task.MatrixOutput.{MatrixOutput}
use Rattle.pylock_command.specs.declared.task.MatrixOutput.TheVariants as matrix
use Rattle.pylock_command.specs.declared.task.Output.{Output}
use Rattle.pylock_command.specs.declared.task.Output.TheVariants as output
use Rattle.pylock_command.specs.declared.task.View.{View}
use Rattle.pylock_command.specs.declared.task.View.TheVariants.{Explain, Plan}

-- the form that the words ask for: one JSON document where they have the flag, and else lines
abbrev pub form_of : List Row → Form
form_of rows = if has_flag (codes "json") rows then Json else Lines

-- the forms that other tools take, by their words
abbrev pub file_format_named : Text → Option FileFormat
file_format_named word =
    if bytes_eq word (codes "sha256sum") then Some Sha256sum
    else (if bytes_eq word (codes "aria2") then Some Aria2
    else (if bytes_eq word (codes "urls") then Some Urls else None))

abbrev pub plan_format_named : Text → Option PlanFormat
plan_format_named word =
    if bytes_eq word (codes "requirements") then Some Requirements
    else (if bytes_eq word (codes "requirements-local") then Some RequirementsLocal
    else option_map Files (file_format_named word))

-- the forms of a plan, bills of materials among them
abbrev pub plan_form_named : Text → Option PlanForm
plan_form_named word =
    if bytes_eq word (codes "cyclonedx") then Some CycloneDx
    else (if bytes_eq word (codes "spdx") then Some Spdx
    else option_map Tool (plan_format_named word))

-- the word of the form that another tool takes, and the form, if the words ask for one
abbrev pub format_word : List Row → Option Text
format_word rows = first_of (codes "format") rows

abbrev pub format_at : {F : Type 0} → (Text → Option F) → List Row → Option F
format_at named rows = option_and_then named (format_word rows)

-- the form that the words ask for, if they do
abbrev pub IsFormat : {F : Type 0} → (Text → Option F) → List Row → Option F → Type 0
IsFormat named rows (Some format) = format_at named rows ≡ Some format
IsFormat named rows None = format_word rows ≡ None

-- `--created` has this text, which is a time
abbrev pub IsTime : List Row → Text → Type 0
IsTime rows time = HasText rows (codes "created") time × (is_created time ≡ true)

-- how an answer is printed: as another tool takes it where that is asked for
abbrev pub IsPlanOutput : List Row → Output → Type 0
IsPlanOutput rows (output.View view form) =
    (view ≡ Plan) × (form ≡ form_of rows) × (format_word rows ≡ None)
IsPlanOutput rows (output.Tool format base) =
    (format_at plan_form_named rows ≡ Some (Tool format)) × IsBase rows base
IsPlanOutput rows (output.Bill bill.CycloneDx) = format_at plan_form_named rows ≡ Some CycloneDx
IsPlanOutput rows (output.Bill (bill.Spdx time)) =
    (format_at plan_form_named rows ≡ Some Spdx) × IsTime rows time.now

abbrev pub IsOutput : View → List Row → Output → Type 0
IsOutput Plan rows shown = IsPlanOutput rows shown
IsOutput Explain rows shown = shown ≡ output.View Explain (form_of rows)

abbrev pub IsFilesOutput : List Row → FilesOutput → Type 0
IsFilesOutput rows (files.Tool format base) =
    IsFormat file_format_named rows (Some format) × IsBase rows base
IsFilesOutput rows (files.Shown form) = (form ≡ form_of rows) × (format_word rows ≡ None)

-- the forms of `audit` that other tools take, by their words
abbrev pub audit_form_named : Text → Option AuditOutput
audit_form_named word = if bytes_eq word (codes "sarif") then Some audit.Sarif else None

abbrev pub IsAuditOutput : List Row → AuditOutput → Type 0
IsAuditOutput rows (audit.Shown form) = (form ≡ form_of rows) × (format_word rows ≡ None)
IsAuditOutput rows audit.Sarif = format_at audit_form_named rows ≡ Some audit.Sarif

-- of `matrix` files where the words have the flag, and else rows
abbrev pub IsMatrixOutput : List Row → MatrixOutput → Type 0
IsMatrixOutput rows (matrix.Files output) =
    (has_flag (codes "files") rows ≡ true) × IsFilesOutput rows output
IsMatrixOutput rows (matrix.Rows form) = (has_flag (codes "files") rows ≡ false)
    × (form ≡ form_of rows) × (format_word rows ≡ None)

-- a form that another tool takes is asked for without JSON, and by its word
abbrev pub word_misuse : List Row → Option Misuse
word_misuse rows =
    if is_some (format_word rows) && has_flag (codes "json") rows then Some TwoForms else None

abbrev pub unknown : {F : Type 0} → Misuse → Option Text → Option F → Option Misuse
unknown misuse (Some word) None = Some misuse
unknown misuse word format = None

abbrev pub format_misuse : {F : Type 0} → (Text → Option F) → Misuse → List Row → Option Misuse
format_misuse named misuse rows = first (
    word_misuse rows ∷ unknown misuse (format_word rows) (format_at named rows) ∷ [])

-- an SPDX document has a time, and nothing else has one
abbrev pub text_misuse : Option Text → Option Misuse
text_misuse None = Some NoTime
text_misuse (Some text) = if is_created text then None else Some BadTime

abbrev pub time_misuse : List Row → Option Misuse
time_misuse rows = text_misuse (first_of (codes "created") rows)

abbrev pub stray_misuse : List Row → Option Misuse
stray_misuse rows = if is_some (first_of (codes "created") rows) then Some StrayTime else None

abbrev pub created_misuse : Option PlanForm → List Row → Option Misuse
created_misuse (Some Spdx) rows = time_misuse rows
created_misuse form rows = stray_misuse rows

abbrev pub plan_output_misuse : List Row → Option Misuse
plan_output_misuse rows = first (format_misuse plan_form_named NoPlanFormat rows
    ∷ base_misuse rows ∷ created_misuse (format_at plan_form_named rows) rows ∷ [])

abbrev pub output_misuse : View → List Row → Option Misuse
output_misuse Plan rows = plan_output_misuse rows
output_misuse Explain rows = None

abbrev pub files_output_misuse : List Row → Option Misuse
files_output_misuse rows =
    first (format_misuse file_format_named NoFileFormat rows ∷ base_misuse rows ∷ [])

abbrev pub audit_output_misuse : List Row → Option Misuse
audit_output_misuse rows = format_misuse audit_form_named NoAuditFormat rows

-- no tool takes the rows of a matrix
abbrev pub matrix_output_misuse : List Row → Option Misuse
matrix_output_misuse rows =
    if has_flag (codes "files") rows then files_output_misuse rows
    else (if is_some (format_word rows) then Some FormatOfRows else None)
