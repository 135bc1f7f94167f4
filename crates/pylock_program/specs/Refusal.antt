-- What is printed in place of an answer, as a line or as a document. A document may tell more than
-- the words of the line, such as where a file is wrong.
use Rattle.std.specs.Prelude.{ℕ, Bool, true, false, List, [], ◌∷◌, codes, Option, Some, None}
use Rattle.std.specs.Prelude.{Result, Ok, Err, decimal, option_map, option_to_list}
use Rattle.std.specs.Result.{result_map_both}
use Rattle.pytext.specs.Agreement.{Gives}
use Rattle.pylock_advisories.specs.Members.{member_name}
use Rattle.pylock_advisories.specs.declared.error.AdvisoriesError.{AdvisoriesError}
use Rattle.pylock_advisories.specs.declared.error.AdvisoriesError.TheVariants as file
use Rattle.pylock_advisories.specs.declared.error.AdvisoryError.{AdvisoryError}
use Rattle.pylock_advisories.specs.declared.error.AdvisoryError.TheVariants as advisory
use Rattle.pylock_command.specs.PlanOptions.{option_words}
use Rattle.pylock_command.specs.declared.option.PlanOption.{PlanOption}
use Rattle.pylock_command.specs.declared.form.Form.{Form}
use Rattle.pylock_command.specs.declared.form.Form.TheVariants.{Lines, Json}
use Rattle.pylock_check.specs.Words.{project_place, project_word}
use Rattle.pylock_check.specs.declared.error.ProjectError.{ProjectError}
use Rattle.pylock_findings.specs.declared.policy.PolicyError.{PolicyError}
use Rattle.pylock_findings.specs.declared.policy.PolicyError.TheVariants as policy
use Rattle.pylock_installed.specs.Words.{installed_words}
use Rattle.pylock_installed.specs.declared.error.InstalledError.{InstalledError}
use Rattle.pylock_messages.specs.Diagnostic.{DiagnosticValue}
use Rattle.pylock_readers.specs.declared.error.LockError.{LockError}
use Rattle.pylock_settings.specs.Words.{settings_place, settings_word}
use Rattle.pylock_settings.specs.declared.error.SettingsError.{SettingsError}
use Rattle.pylock_run.specs.Report.{Report}
use Rattle.pylock_run.specs.Report.Print.{Prints}
use Rattle.pylock_run.specs.Stream.{SinkValue}
use Rattle.pylock_run.specs.Text.Field.{field, line_of}
use Rattle.pylock_run.specs.Text.Refusal.{lock_words, refusal_text, side_text}
use Rattle.pylock_run.specs.declared.report.fault.RunFault.{RunFault}
use Rattle.pylock_run.specs.declared.report.opening.OpenError.{OpenError}
use Rattle.pylock_run.specs.declared.report.opening.OpenError.TheVariants as open_error
use Rattle.pylock_union.specs.Listed.{LockSourceValue}
use Rattle.pylock_union.specs.Text.{clash_text, clash_words}
use Rattle.pylock_program.specs.Findings.{findings_shown}
use Rattle.pylock_program.specs.Text.Json.{option_json, refusal_json, words_json}
use Rattle.pylock_program.specs.declared.opening.Unopened.{Unopened}
use Rattle.pylock_program.specs.declared.opening.Unopened.TheVariants.{Findings, Refused}
use Rattle.pylock_program.specs.declared.refusal.Cause.{Cause}
use Rattle.pylock_program.specs.declared.refusal.Cause.TheVariants as cause
use Rattle.pylock_program.specs.declared.refusal.Refusal.{Refusal}
use Rattle.pylock_program.specs.declared.refusal.Side.{Side as LockSide}
use Rattle.pylock_program.specs.declared.refusal.Side.TheVariants.{Old, New}

-- a text that is refused: its word
abbrev pub refused_shown : Form → List ℕ → List ℕ
refused_shown Lines word = line_of (codes "refused") (word ∷ [])
refused_shown Json word = words_json (word ∷ []) None

-- ---- why there is no answer, and what is told of that

-- a refused lock or environment
abbrev pub refusal_printed : Form → Option DiagnosticValue → OpenError → List ℕ
refusal_printed Lines diagnostic refusal = refusal_text refusal
refusal_printed Json diagnostic refusal = refusal_json refusal diagnostic

-- why there is no session
abbrev pub unopened_printed : Form → Option DiagnosticValue → Unopened → List ℕ
unopened_printed form diagnostic (Findings found) = findings_shown form found
unopened_printed form diagnostic (Refused refusal) = refusal_printed form diagnostic refusal

-- a refused lock, of which `old` or `new` tells which of two it is
abbrev pub side_word : LockSide → List ℕ
side_word Old = codes "old"
side_word New = codes "new"

abbrev pub side_printed : Form → Option DiagnosticValue → LockSide → LockError → List ℕ
side_printed Lines diagnostic side error = side_text (side_word side) error
side_printed Json diagnostic side error =
    words_json (codes "lock" ∷ side_word side ∷ lock_words error) diagnostic

-- a refused list of what is installed
abbrev pub installed_printed : Form → Option DiagnosticValue → InstalledError → List ℕ
installed_printed Lines diagnostic error = line_of (codes "installed") (installed_words error)
installed_printed Json diagnostic error =
    words_json (codes "installed" ∷ installed_words error) diagnostic

-- what is refused, by a word, why, by another, and where it is wrong
abbrev pub placed_printed : Form → Option DiagnosticValue → List ℕ → List ℕ → Option (List ℕ)
    → List ℕ
placed_printed Lines diagnostic what word place = line_of what
    (word ∷ option_to_list (option_map (λ p. field (Some p)) place))
placed_printed Json diagnostic what word place =
    words_json (what ∷ word ∷ option_to_list place) diagnostic

-- a refused project file: its word, and where it is wrong
abbrev pub project_printed : Form → Option DiagnosticValue → ProjectError → List ℕ
project_printed form diagnostic error =
    placed_printed form diagnostic (codes "project") (project_word error) (project_place error)

-- refused settings of an audit: their word, and where they are wrong
abbrev pub settings_printed : Form → Option DiagnosticValue → SettingsError → List ℕ
settings_printed form diagnostic error =
    placed_printed form diagnostic (codes "config") (settings_word error) (settings_place error)

-- a text that is the word of no finding, or the name of no package; out of memory is no refusal,
-- and is never printed
abbrev pub policy_words : PolicyError → List ℕ × Option (List ℕ)
policy_words (policy.UnknownFinding text) = (codes "finding", Some text)
policy_words (policy.NoName text) = (codes "name", Some text)
policy_words policy.Memory = (codes "memory", None)

abbrev pub policy_printed : Form → Option DiagnosticValue → PolicyError → List ℕ
policy_printed Lines diagnostic error =
    placed_printed Lines diagnostic (codes "refused") (policy_words error).0 (policy_words error).1
policy_printed Json diagnostic error =
    words_json ((policy_words error).0 ∷ option_to_list (policy_words error).1) diagnostic

-- a refused file of advisories: its number among them, the place of the advisory in it, both from
-- 1, and what is wrong there; out of memory is no refusal, and is never printed
abbrev pub reason_word : AdvisoryError → List ℕ
reason_word advisory.Json = codes "json"
reason_word advisory.Object = codes "object"
reason_word (advisory.Member member) = codes "member"
reason_word advisory.Memory = codes "memory"

abbrev pub advisory_words : AdvisoryError → List (List ℕ)
advisory_words (advisory.Member member) =
    reason_word (advisory.Member member) ∷ member_name member ∷ []
advisory_words error = reason_word error ∷ []

abbrev pub advisories_words : ℕ → AdvisoriesError → List (List ℕ)
advisories_words number (file.Advisory place error) =
    decimal number ∷ decimal place ∷ advisory_words error
advisories_words number file.Memory = codes "memory" ∷ []

abbrev pub advisories_printed : Form → Option DiagnosticValue → ℕ → AdvisoriesError → List ℕ
advisories_printed Lines diagnostic number error =
    line_of (codes "advisories") (advisories_words number error)
advisories_printed Json diagnostic number error =
    words_json (codes "advisories" ∷ advisories_words number error) diagnostic

-- of several locks two files of one name differ: the lock and the entry of the earlier and of the
-- later, each from 1, and the file
abbrev pub clash_printed : Form → Option DiagnosticValue → LockSourceValue × LockSourceValue
    → List ℕ
clash_printed Lines diagnostic clash = clash_text clash.0 clash.1
clash_printed Json diagnostic clash = words_json (clash_words clash.0 clash.1) diagnostic

-- an option that is refused: its word, without the dashes, and its text
abbrev pub option_printed : Form → Option DiagnosticValue → PlanOption → List ℕ
option_printed Lines diagnostic option =
    line_of (codes "refused") ((option_words option).0 ∷ field (option_words option).1 ∷ [])
option_printed Json diagnostic option = option_json option diagnostic

abbrev pub cause_printed : Form → Option DiagnosticValue → Cause → List ℕ
cause_printed form diagnostic (cause.Unopened unopened) = unopened_printed form diagnostic unopened
cause_printed form diagnostic (cause.Side side error) = side_printed form diagnostic side error
cause_printed form diagnostic (cause.Installed error) = installed_printed form diagnostic error
cause_printed form diagnostic (cause.Project error) = project_printed form diagnostic error
cause_printed form diagnostic (cause.Settings error) = settings_printed form diagnostic error
cause_printed form diagnostic (cause.Policy error) = policy_printed form diagnostic error
cause_printed form diagnostic (cause.Advisories number error) =
    advisories_printed form diagnostic number error
cause_printed form diagnostic (cause.Clash clash) = clash_printed form diagnostic clash
cause_printed form diagnostic (cause.Option option) = option_printed form diagnostic option

-- 1: an option is refused
abbrev pub cause_status : Cause → ℕ
cause_status (cause.Option option) = 1
cause_status other = 2

-- ---- what is printed

-- nothing
abbrev pub silence : ℕ → Report
silence status = record { text = []; status = status }

abbrev pub cause_report : Form → Option DiagnosticValue → Cause → Report
cause_report form diagnostic because =
    record { text = cause_printed form diagnostic because; status = cause_status because }

-- a refusal in a form; where the answer would be for another tool, nothing stands in its place
abbrev pub refusal_report : Option Form → Option DiagnosticValue → Cause → Report
refusal_report (Some form) diagnostic because = cause_report form diagnostic because
refusal_report None diagnostic because = silence (cause_status because)

-- what is printed of an answer, or in its place
abbrev pub report_or_refusal : {V : Type 0} → Option Form → Option DiagnosticValue → (V → Report)
    → Result V Cause → Report
report_or_refusal form diagnostic report (Ok answer) = report answer
report_or_refusal form diagnostic report (Err because) = refusal_report form diagnostic because

-- A report is printed that may tell more of a refusal than its words; what it tells is left open.
abbrev pub PrintsTelling : (Option DiagnosticValue → Report) → SinkValue → SinkValue
    → Result ℕ RunFault → Type 0
PrintsTelling report sink sink' result =
    (diagnostic : Option DiagnosticValue) × Prints (report diagnostic) sink sink' result

-- ---- what a call gives that may be refused

-- memory ran out, which is no refusal, and is never printed
abbrev pub out_of_memory : Cause
out_of_memory = cause.Unopened (Refused open_error.Memory)

abbrev pub is_memory : Cause → Bool
is_memory (cause.Unopened (Refused open_error.Memory)) = true
is_memory because = false

-- the call gives what the definition gives, or is refused as the definition says, unless memory ran
-- out
abbrev pub GivesOr : {X V : Type 0} → (X → V) → Result X Refusal → Result V Cause → Type 0
GivesOr view result definition = Gives out_of_memory view
    (result_map_both (λ x. x) (λ refusal. refusal.cause) result) definition
