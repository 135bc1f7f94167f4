-- What the subcommands with several arguments are asked, in clap's terms, and when their words are
-- refused.
use Rattle.std.specs.Prelude.{◌≡◌, ◌++◌, ℕ, Bool, List, [], ◌∷◌, Option, Some, None, codes, false}
use Rattle.std.specs.Prelude.{filter, if◌then◌else◌, is_some, length, map, nat_lt, option_map}
use Rattle.std.specs.Prelude.{option_to_list, true}
use Rattle.std.specs.Borrow.{Bor}
use Rattle.std.specs.Str.{bytes_eq}
use Rattle.clap.specs.Words.{Row, Text, first_of}
use Rattle.pylock_command.specs.PlanOptions.{AreLeft, AreOptions, has_plan_options, texts_at}
use Rattle.pylock_command.specs.Form.{IsAuditOutput, IsFilesOutput, IsMatrixOutput, IsOutput}
use Rattle.pylock_command.specs.Form.{audit_output_misuse, files_output_misuse, form_of}
use Rattle.pylock_command.specs.Form.{matrix_output_misuse, output_misuse}
use Rattle.pylock_command.specs.Machine.{IsMachine, machine_misuse, names_none, place_misuse}
use Rattle.pylock_command.specs.Misuse.{first, lack}
use Rattle.pylock_command.specs.Texts.{HasText, has_flag, input_misuse, inputs_misuse}
use Rattle.pylock_command.specs.declared.misuse.Misuse.{Misuse}
use Rattle.pylock_command.specs.declared.misuse.Misuse.TheVariants.{EnvAndMatrix, NoPlans}
use Rattle.pylock_command.specs.declared.misuse.Misuse.TheVariants.{TwoInputs}
use Rattle.pylock_command.specs.declared.task.AuditQuestion.{AuditQuestion}
use Rattle.pylock_command.specs.declared.task.CheckMatrixQuestion.{CheckMatrixQuestion}
use Rattle.pylock_command.specs.declared.task.CheckQuestion.{CheckQuestion}
use Rattle.pylock_command.specs.declared.task.Comparison.{Comparison}
use Rattle.pylock_command.specs.declared.task.FilesQuestion.{FilesQuestion}
use Rattle.pylock_command.specs.declared.task.Installation.{Installation}
use Rattle.pylock_command.specs.declared.task.MatrixQuestion.{MatrixQuestion}
use Rattle.pylock_command.specs.declared.task.Opening.{Opening}
use Rattle.pylock_command.specs.declared.task.Question.{Question}
use Rattle.pylock_command.specs.declared.task.StatusQuestion.{StatusQuestion}
use Rattle.pylock_command.specs.declared.task.View.{View}

-- ---- `plan`, `explain` and `select`

abbrev pub IsOpening : List Row → Opening → Type 0
IsOpening rows opening = HasText rows (codes "LOCK") opening.lock.now
    × IsMachine (codes "ENV") rows opening.machine
    × (opening.strict ≡ has_flag (codes "strict") rows)

-- the words name a lock and a machine
abbrev pub opening_misuse : List Row → Option Misuse
opening_misuse rows = first (lack (codes "LOCK") rows ∷ machine_misuse rows ∷ [])

abbrev pub IsQuestion : View → List Row → Question → Type 0
IsQuestion view rows question = IsOpening rows question.opening
    × AreOptions rows question.options.items × IsOutput view rows question.output

-- of `plan` and `explain` one of the two at most is standard input, and of `select` none
abbrev pub question_misuse : View → List Row → Option Misuse
question_misuse view rows = first (opening_misuse rows
    ∷ inputs_misuse (codes "LOCK") (codes "ENV") rows ∷ output_misuse view rows ∷ [])

abbrev pub select_misuse : List Row → Option Misuse
select_misuse rows = first (opening_misuse rows
    ∷ input_misuse (codes "LOCK") rows ∷ input_misuse (codes "ENV") rows ∷ [])

-- ---- `matrix`

-- an argument that may be left out has this text, or none
abbrev pub MayHave : List Row → Text → Option (Bor Text) → Type 0
MayHave rows id text = option_map (λ text. text.now) text ≡ first_of id rows

-- the words name a lock, and may name targets
abbrev pub IsMatrix : List Row → MatrixQuestion → Type 0
IsMatrix rows asked = HasText rows (codes "LOCK") asked.lock.now
    × MayHave rows (codes "python") asked.pythons
    × MayHave rows (codes "platform") asked.platforms
    × AreOptions rows asked.options.items
    × (asked.strict ≡ has_flag (codes "strict") rows)
    × (asked.no_build ≡ has_flag (codes "no-build") rows) × IsMatrixOutput rows asked.output

abbrev pub matrix_misuse : List Row → Option Misuse
matrix_misuse rows = first (lack (codes "LOCK") rows ∷ matrix_output_misuse rows ∷ [])

-- ---- several files, of which one at most is standard input

-- a repeated argument has these texts, in order
abbrev pub HasTexts : List Row → Text → List (Bor Text) → Type 0
HasTexts rows id texts = map (λ text. text.now) texts ≡ texts_at id rows

abbrev pub is_dash : Text → Bool
is_dash path = bytes_eq path (codes "-")

abbrev pub input_count : List Text → ℕ
input_count paths = length (filter is_dash paths)

abbrev pub paths_misuse : List Text → Option Misuse
paths_misuse paths = if nat_lt 1 (input_count paths) then Some TwoInputs else None

-- ---- `files`

-- the words name locks, of which the first stands by itself, and what is left out
abbrev pub IsFiles : List Row → FilesQuestion → Type 0
IsFiles rows asked = HasTexts rows (codes "LOCK") (asked.lock ∷ asked.others.items)
    × AreLeft rows asked.options.items × IsFilesOutput rows asked.output

abbrev pub files_misuse : List Row → Option Misuse
files_misuse rows = first (lack (codes "LOCK") rows ∷ files_output_misuse rows
    ∷ paths_misuse (texts_at (codes "LOCK") rows) ∷ [])

-- ---- `audit`

-- the words name a lock, and may name more
abbrev pub IsAudit : List Row → AuditQuestion → Type 0
IsAudit rows asked = HasText rows (codes "LOCK") asked.lock.now
    × (asked.environments ≡ has_flag (codes "environments") rows)
    × HasTexts rows (codes "advisories") asked.advisories.items
    × HasTexts rows (codes "host") asked.hosts.items
    × MayHave rows (codes "fail-on") asked.fail_on
    × HasTexts rows (codes "ignore") asked.ignored.items
    × MayHave rows (codes "config") asked.config × IsAuditOutput rows asked.output

-- the files that are read
abbrev pub audit_paths : List Row → List Text
audit_paths rows = (texts_at (codes "advisories") rows
    ++ option_to_list (first_of (codes "LOCK") rows))
    ++ option_to_list (first_of (codes "config") rows)

abbrev pub audit_inputs_misuse : List Row → Option Misuse
audit_inputs_misuse rows = paths_misuse (audit_paths rows)

abbrev pub audit_misuse : List Row → Option Misuse
audit_misuse rows = first (lack (codes "LOCK") rows ∷ audit_output_misuse rows
    ∷ audit_inputs_misuse rows ∷ [])

-- ---- `status`

-- the words name a lock, a machine and a list of what is installed
abbrev pub IsStatus : List Row → StatusQuestion → Type 0
IsStatus rows asked = IsOpening rows asked.opening × AreOptions rows asked.options.items
    × HasText rows (codes "installed") asked.installed.now
    × (asked.exact ≡ has_flag (codes "exact") rows) × (asked.form ≡ form_of rows)

-- of all files one at most is standard input
abbrev pub status_misuse : List Row → Option Misuse
status_misuse rows = first (opening_misuse rows ∷ lack (codes "installed") rows
    ∷ inputs_misuse (codes "LOCK") (codes "ENV") rows
    ∷ inputs_misuse (codes "LOCK") (codes "installed") rows
    ∷ inputs_misuse (codes "ENV") (codes "installed") rows ∷ [])

-- ---- `check`

-- the words name a lock, a machine and a project file
abbrev pub IsCheck : List Row → CheckQuestion → Type 0
IsCheck rows asked = IsOpening rows asked.opening × AreOptions rows asked.options.items
    × HasText rows (codes "PROJECT") asked.project.now × (asked.form ≡ form_of rows)

-- of all files one at most is standard input
abbrev pub check_misuse : List Row → Option Misuse
check_misuse rows = first (opening_misuse rows ∷ lack (codes "PROJECT") rows
    ∷ inputs_misuse (codes "LOCK") (codes "ENV") rows
    ∷ inputs_misuse (codes "LOCK") (codes "PROJECT") rows
    ∷ inputs_misuse (codes "ENV") (codes "PROJECT") rows ∷ [])

-- the words ask for the targets of a matrix
abbrev pub has_matrix : List Row → Bool
has_matrix rows = has_flag (codes "matrix") rows

-- then they name a lock and a project file, and may name targets
abbrev pub IsCheckMatrix : List Row → CheckMatrixQuestion → Type 0
IsCheckMatrix rows asked = HasText rows (codes "LOCK") asked.lock.now
    × MayHave rows (codes "python") asked.pythons
    × MayHave rows (codes "platform") asked.platforms
    × AreOptions rows asked.options.items
    × (asked.strict ≡ has_flag (codes "strict") rows)
    × HasText rows (codes "PROJECT") asked.project.now × (asked.form ≡ form_of rows)

-- ENV isn't there, and of the two files one at most is standard input
abbrev pub env_misuse : List Row → Option Misuse
env_misuse rows = if is_some (first_of (codes "ENV") rows) then Some EnvAndMatrix else None

abbrev pub check_matrix_misuse : List Row → Option Misuse
check_matrix_misuse rows = first (lack (codes "LOCK") rows ∷ lack (codes "PROJECT") rows
    ∷ env_misuse rows ∷ inputs_misuse (codes "LOCK") (codes "PROJECT") rows ∷ [])

abbrev pub any_check_misuse : List Row → Option Misuse
any_check_misuse rows = if has_matrix rows then check_matrix_misuse rows else check_misuse rows

-- ---- `diff`

-- for which machine plans are compared, and with which options; or the locks, with no options
abbrev pub IsInstallation : List Row → Option Installation → Type 0
IsInstallation rows (Some asked) =
    IsMachine (codes "in") rows asked.machine × AreOptions rows asked.options.items
IsInstallation rows None = (names_none (codes "in") rows ≡ true) × (has_plan_options rows ≡ false)

abbrev pub installation_misuse : List Row → Option Misuse
installation_misuse rows =
    if names_none (codes "in") rows then (if has_plan_options rows then Some NoPlans else None)
    else place_misuse (codes "in") rows

abbrev pub IsComparison : List Row → Comparison → Type 0
IsComparison rows asked = HasText rows (codes "OLD") asked.old.now
    × HasText rows (codes "NEW") asked.new.now × IsInstallation rows asked.installation
    × (asked.form ≡ form_of rows)

-- the words name two locks, and of all files one at most is standard input
abbrev pub comparison_misuse : List Row → Option Misuse
comparison_misuse rows = first (lack (codes "OLD") rows ∷ lack (codes "NEW") rows
    ∷ inputs_misuse (codes "OLD") (codes "NEW") rows
    ∷ inputs_misuse (codes "OLD") (codes "in") rows
    ∷ inputs_misuse (codes "NEW") (codes "in") rows ∷ installation_misuse rows ∷ [])
