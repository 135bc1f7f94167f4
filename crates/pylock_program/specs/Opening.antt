-- The state in which a session begins that a task asks for, or why there is none. With `--strict` a
-- lock is taken only where nothing is found in it that a strict reading refuses.
use Rattle.std.specs.Prelude.{ℕ, Bool, if◌then◌else◌, List, [], ◌∷◌, Result, Err}
use Rattle.std.specs.Result.{result_map_both}
use Rattle.pytext.specs.Results.{◌>>=◌}
use Rattle.pylock_audit.specs.Finding.{LockFindingValue}
use Rattle.pylock_audit.specs.Strict.{strict_findings_of}
use Rattle.pylock_command.specs.declared.option.PlanOption.{PlanOption}
use Rattle.pylock_command.specs.declared.task.Question.{Question}
use Rattle.pylock_core.specs.Session.State.{State}
use Rattle.pymark_core.specs.Environment.{EnvironmentValue}
use Rattle.pywheel_core.specs.Tag.{TagValue}
use Rattle.pylock_readers.specs.Environment.{EnvironmentRead}
use Rattle.pylock_run.specs.Report.{state_in}
use Rattle.pylock_run.specs.declared.report.opening.OpenError.{OpenError}
use Rattle.pylock_run.specs.declared.report.opening.OpenError.TheVariants.{Environment}
use Rattle.pylock_program.specs.PlanOptions.{after_options}
use Rattle.pylock_program.specs.declared.opening.Unopened.{Unopened}
use Rattle.pylock_program.specs.declared.opening.Unopened.TheVariants.{Findings, Refused}
use Rattle.pylock_program.specs.declared.refusal.Cause.{Cause}
use Rattle.pylock_program.specs.declared.refusal.Cause.TheVariants as cause

-- the findings that count against the lock that the bytes are: none, where it isn't taken strictly
abbrev pub found_by : Bool → List ℕ → List LockFindingValue
found_by strict lock = if strict then strict_findings_of lock else []

-- the state in which a session begins, unless there are findings
abbrev pub open_unless : List LockFindingValue → Result State OpenError → Result State Unopened
open_unless [] opened = result_map_both (λ state. state) Refused opened
open_unless (one ∷ others) opened = Err (Findings (one ∷ others))

-- the same from the bytes of a lock that is taken strictly, or isn't, and from an environment as it
-- was read: the refusal of the lock comes first, then the findings, then the refusal of the
-- environment
abbrev pub opened_by : Bool → List ℕ → EnvironmentRead → Result State Unopened
opened_by strict lock read = open_unless (found_by strict lock) (state_in lock read)

abbrev pub strict_state : List ℕ → EnvironmentRead → Result State Unopened
strict_state lock read = open_unless (strict_findings_of lock) (state_in lock read)

-- an environment as it was read, or its refusal
abbrev pub environment_of : EnvironmentRead → Result (EnvironmentValue × List TagValue) Cause
environment_of read =
    result_map_both (λ e. e) (λ error. cause.Unopened (Refused (Environment error))) read

-- the state after the options, or the first that is refused
abbrev pub chosen_state : List PlanOption → State → Result State Cause
chosen_state options state =
    result_map_both (λ state. state) cause.Option (after_options options state)

-- the state that a question asks for
abbrev pub question_state : Question → List ℕ → EnvironmentRead → Result State Cause
question_state question lock read =
    result_map_both (λ state. state) cause.Unopened (opened_by question.opening.strict lock read)
    >>= chosen_state question.options.items
