-- What `audit` prints of a lock, with what is asked besides.
use Rattle.std.specs.Borrow.{Bor}
use Rattle.std.specs.Prelude.{◌≡◌, ◌++◌, ◌+◌, ◌||◌, ℕ, Bool, List, [], ◌∷◌, map, Option, Some, None}
use Rattle.std.specs.Prelude.{Result, Ok, Err}
use Rattle.std.specs.Option.{option_copied, option_map_or}
use Rattle.std.specs.Result.{result_map_both}
use Rattle.pytext.specs.Results.{◌>>=◌}
use Rattle.pylock_advisories.specs.Advisory.{AdvisoryValue}
use Rattle.pylock_advisories.specs.File.{advisories_of, read_more}
use Rattle.pylock_audit.specs.Audit.{audited_of}
use Rattle.pylock_audit.specs.Finding.{LockFindingValue}
use Rattle.pylock_command.specs.declared.form.Form.{Form}
use Rattle.pylock_command.specs.declared.form.Form.TheVariants.{Lines, Json}
use Rattle.pylock_command.specs.declared.task.AuditOutput.{AuditOutput}
use Rattle.pylock_command.specs.declared.task.AuditOutput.TheVariants.{Shown, Sarif}
use Rattle.pylock_command.specs.declared.task.AuditQuestion.{AuditQuestion}
use Rattle.pylock_findings.specs.All.{AreAll}
use Rattle.pylock_findings.specs.Policy.{PolicyValue, counted, policy_of, status}
use Rattle.pylock_messages.specs.Diagnostic.{DiagnosticValue}
use Rattle.pylock_readers.specs.Lock.{LockValue}
use Rattle.pylock_readers.specs.declared.error.LockError.{LockError}
use Rattle.pylock_run.specs.Report.{Report}
use Rattle.pylock_run.specs.Report.Print.{Prints}
use Rattle.pylock_run.specs.Stream.{SinkValue}
use Rattle.pylock_run.specs.declared.report.fault.RunFault.{RunFault}
use Rattle.pylock_run.specs.declared.report.fault.RunFault.TheVariants.{Memory}
use Rattle.pylock_run.specs.declared.report.opening.OpenError.TheVariants as open_error
use Rattle.pylock_settings.specs.Settings.{SettingsValue, no_settings}
use Rattle.pylock_settings.specs.Reading.{settings_of}
use Rattle.pylock_program.specs.Findings.{list_status}
use Rattle.pylock_program.specs.Refusal.{PrintsTelling, refusal_report}
use Rattle.pylock_program.specs.Located.{AreLocated, audit_rows}
use Rattle.pylock_program.specs.Sarif.{PrintsSarif}
use Rattle.pylock_program.specs.Text.Audit.{audit_text}
use Rattle.pylock_program.specs.Text.Json.{json_text}
use Rattle.pylock_program.specs.declared.opening.Unopened.TheVariants.{Refused}
use Rattle.pylock_program.specs.declared.located.Located.{Located}
use Rattle.pylock_program.specs.declared.refusal.Cause.{Cause}
use Rattle.pylock_program.specs.declared.refusal.Cause.TheVariants as cause

-- ---- what is asked

abbrev pub words_of : List (Bor (List ℕ)) → List (List ℕ)
words_of words = map (λ word. word.now) words

-- every environment, where the words or the settings say so
abbrev pub asks_environments : AuditQuestion → SettingsValue → Bool
asks_environments asked settings = asked.environments || settings.environments

-- the hosts of the settings, and those of the words
abbrev pub asked_hosts : AuditQuestion → SettingsValue → List (List ℕ)
asked_hosts asked settings = settings.hosts ++ words_of asked.hosts.items

-- which findings fail, by the words, or else by the settings
abbrev pub asked_fail_on : AuditQuestion → SettingsValue → Option (List ℕ)
asked_fail_on asked settings =
    option_map_or (λ words. Some words) (option_copied asked.fail_on) settings.fail_on

-- what is ignored, by the settings and by the words
abbrev pub asked_ignored : AuditQuestion → SettingsValue → List (List ℕ)
asked_ignored asked settings = settings.ignored ++ words_of asked.ignored.items

-- ---- what is read

-- a lock with what is found in it, and what counts
pub record AuditValue : Type 0 where
  pub lock : LockValue
  pub found : List LockFindingValue
  pub settings : SettingsValue
  pub policy : PolicyValue
  pub advisories : List AdvisoryValue

-- a lock and what is found in it
abbrev pub audited_in : List ℕ → Result (LockValue × List LockFindingValue) Cause
audited_in bytes = result_map_both (λ audited. audited)
    (λ error. cause.Unopened (Refused (open_error.Lock error))) (audited_of bytes)

-- the settings in a project file; without a file there are none
abbrev pub settings_in : Option (List ℕ) → Result SettingsValue Cause
settings_in None = Ok no_settings
settings_in (Some bytes) =
    result_map_both (λ settings. settings) cause.Settings (settings_of bytes)

-- which findings count
abbrev pub policy_in : AuditQuestion → SettingsValue → Result PolicyValue Cause
policy_in asked settings = result_map_both (λ policy. policy) cause.Policy
    (policy_of (asked_fail_on asked settings) (asked_ignored asked settings))

-- those that were read before, and behind them those of files, of which the first has this number
unfoldable pub advisories_from : List AdvisoryValue → ℕ → List (List ℕ)
    → Result (List AdvisoryValue) Cause
advisories_from before number [] = Ok before
advisories_from before number (bytes ∷ files) =
    result_map_both (λ all. all) (cause.Advisories number) (read_more before (advisories_of bytes))
    >>= (λ all. advisories_from all (number + 1) files)

-- the lock is judged first, then the settings, the words, and the advisories
abbrev pub opened_audit : AuditQuestion → List ℕ → List (List ℕ) → Option (List ℕ)
    → Result AuditValue Cause
opened_audit asked lock files config = do
  audited ← audited_in lock
  settings ← settings_in config
  policy ← policy_in asked settings
  advisories ← advisories_from [] 1 files
  Ok (record {
    lock = audited.0;
    found = audited.1;
    settings = settings;
    policy = policy;
    advisories = advisories;
  })

-- ---- what is printed

-- the lines of the findings that count, and of how many are ignored
abbrev pub lines_report : ℕ → ℕ → List LockFindingValue → Report
lines_report ignored status found =
    record { text = audit_text ignored found; status = status }

-- the document of these findings at their places
abbrev pub document_report : ℕ → ℕ → List Located → Report
document_report ignored status located =
    record { text = json_text (audit_rows ignored located); status = status }

-- the form of a refusal; where the answer would be for another tool, nothing is printed
abbrev pub audit_form : AuditOutput → Option Form
audit_form (Shown form) = Some form
audit_form Sarif = None

-- the findings have places in these bytes of a lock, with which the document is printed
pub record PrintsLocated (bytes : List ℕ) (found : List LockFindingValue) (ignored status : ℕ)
    (sink sink' : SinkValue) (result : Result ℕ RunFault) : Type 0 where
  pub located : List Located
  pub are_located : AreLocated bytes found located
  pub prints : Prints (document_report ignored status located) sink sink' result

-- the findings that count are printed, of the lock at a path, which has these bytes
abbrev pub PrintsCounted : AuditOutput → List ℕ → List ℕ → PolicyValue
    → List LockFindingValue × ℕ → SinkValue → SinkValue → Result ℕ RunFault → Type 0
PrintsCounted (Shown Lines) path bytes policy found sink sink' result =
    Prints (lines_report found.1 (status policy found.0) found.0) sink sink' result
PrintsCounted (Shown Json) path bytes policy found sink sink' result =
    PrintsLocated bytes found.0 found.1 (status policy found.0) sink sink' result
PrintsCounted Sarif path bytes policy found sink sink' result =
    PrintsSarif path bytes found.0 (status policy found.0) sink sink' result

-- they are those of all that is found
pub record PrintsFound (asked : AuditQuestion) (bytes : List ℕ) (opened : AuditValue)
    (sink sink' : SinkValue) (result : Result ℕ RunFault) : Type 0 where
  pub all : List LockFindingValue
  pub are_all : AreAll (asks_environments asked opened.settings) opened.advisories
      (asked_hosts asked opened.settings) opened.lock opened.found all
  pub prints : PrintsCounted asked.output asked.lock.now bytes opened.policy
      (counted opened.policy all) sink sink' result

-- memory ran out before anything was written
abbrev pub EndsUnwritten : SinkValue → SinkValue → Result ℕ RunFault → Type 0
EndsUnwritten sink sink' result = (result ≡ Err Memory) × (sink' ≡ sink)

-- what was read and counts is printed, or the refusal of a part of it
abbrev pub PrintsAudit : AuditQuestion → List ℕ → Result AuditValue Cause → SinkValue → SinkValue
    → Result ℕ RunFault → Type 0
PrintsAudit asked bytes (Ok opened) sink sink' result =
    PrintsFound asked bytes opened sink sink' result
PrintsAudit asked bytes (Err because) sink sink' result =
    PrintsTelling (λ diagnostic. refusal_report (audit_form asked.output) diagnostic because)
    sink sink' result

-- where nothing is asked besides: the document of all that is found in the lock alone, or of the
-- refusal
abbrev pub PrintsAll : List ℕ → Result (List LockFindingValue) Cause → SinkValue → SinkValue
    → Result ℕ RunFault → Type 0
PrintsAll bytes (Ok found) sink sink' result =
    PrintsLocated bytes found 0 (list_status found) sink sink' result
PrintsAll bytes (Err because) sink sink' result =
    PrintsTelling (λ diagnostic. refusal_report (Some Json) diagnostic because) sink sink' result
