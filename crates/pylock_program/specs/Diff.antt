-- What `diff` prints: what changed from one lock to another, or from one plan to the other.
use Rattle.std.specs.Prelude.{ℕ, List, Option, Some, Result, Ok}
use Rattle.std.specs.Result.{result_map_both}
use Rattle.pytext.specs.Results.{◌>>=◌}
use Rattle.pylock_command.specs.declared.option.PlanOption.{PlanOption}
use Rattle.pylock_command.specs.declared.form.Form.{Form}
use Rattle.pylock_command.specs.declared.form.Form.TheVariants.{Lines, Json}
use Rattle.pylock_core.specs.Session.State.{State, first}
use Rattle.pylock_core.specs.Session.Steps.{answer}
use Rattle.pylock_diff.specs.Change.{ChangeValue}
use Rattle.pylock_diff.specs.Changes.{answer_changes, lock_changes}
use Rattle.pylock_diff.specs.Compared.{compared_of}
use Rattle.pylock_diff.specs.Document.{changes_rows}
use Rattle.pylock_messages.specs.Diagnostic.{DiagnosticValue}
use Rattle.pylock_readers.specs.Environment.{EnvironmentRead}
use Rattle.pylock_readers.specs.Lock.Reading.{lock_of}
use Rattle.pylock_readers.specs.declared.error.LockError.{LockError}
use Rattle.pylock_run.specs.Report.{Report}
use Rattle.pylock_program.specs.Findings.{list_status}
use Rattle.pylock_program.specs.Opening.{chosen_state, environment_of}
use Rattle.pylock_program.specs.Refusal.{report_or_refusal}
use Rattle.pylock_program.specs.Text.Diff.{changes_text}
use Rattle.pylock_program.specs.Text.Json.{json_text}
use Rattle.pylock_program.specs.declared.refusal.Cause.{Cause}
use Rattle.pylock_program.specs.declared.refusal.Cause.TheVariants as cause
use Rattle.pylock_program.specs.declared.refusal.Side.{Side as LockSide}
use Rattle.pylock_program.specs.declared.refusal.Side.TheVariants.{Old, New}

-- the changes, and whether there are any
abbrev pub changes_shown : Form → List ChangeValue → List ℕ
changes_shown Lines changes = changes_text changes
changes_shown Json changes = json_text (changes_rows changes)

abbrev pub changes_report : Form → List ChangeValue → Report
changes_report form changes =
    record { text = changes_shown form changes; status = list_status changes }

-- one of two locks, or its refusal
abbrev pub side_of : {V : Type 0} → LockSide → Result V LockError → Result V Cause
side_of side lock = result_map_both (λ v. v) (cause.Side side) lock

-- both locks, of which the old one is judged first
abbrev pub both_of : {V : Type 0} → Result V LockError → Result V LockError → Result (V × V) Cause
both_of old new = do
  old ← side_of Old old
  new ← side_of New new
  Ok (old, new)

-- `diff OLD NEW`, from the bytes of both
abbrev pub locks_report : Form → Option DiagnosticValue → List ℕ → List ℕ → Report
locks_report form diagnostic old new =
    report_or_refusal (Some form) diagnostic
    (λ both. changes_report form (lock_changes both.0 both.1))
    (both_of (compared_of old) (compared_of new))

-- both states after the options, or the first option that is refused
abbrev pub both_chosen : List PlanOption → State × State → Result (State × State) Cause
both_chosen options both = do
  old ← chosen_state options both.0
  new ← chosen_state options both.1
  Ok (old, new)

-- the states of both locks after the options, in an environment as it was read: both locks are
-- judged before the environment, and that before an option
abbrev pub plans_state : List PlanOption → List ℕ → List ℕ → EnvironmentRead
    → Result (State × State) Cause
plans_state options old new read = do
  locks ← both_of (lock_of old) (lock_of new)
  environment ← environment_of read
  both_chosen options
      (first locks.0 environment.0 environment.1, first locks.1 environment.0 environment.1)

abbrev pub plans_report : Form → Option DiagnosticValue → List PlanOption → List ℕ → List ℕ
    → EnvironmentRead → Report
plans_report form diagnostic options old new read =
    report_or_refusal (Some form) diagnostic
    (λ both. changes_report form (answer_changes both.0 both.1 (answer both.0) (answer both.1)))
    (plans_state options old new read)
