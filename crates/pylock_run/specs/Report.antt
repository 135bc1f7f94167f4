-- The report of a run over a lock, an environment and an input: what it prints, and its status.
pub mod Fault
pub mod Print
pub mod Run
use Rattle.std.specs.Prelude.{ℕ, ◌+◌, ◌++◌, ◌&&◌, ◌||◌, not, Bool, true, false, if◌then◌else◌}
use Rattle.std.specs.Prelude.{List, [], ◌∷◌, Result, Ok, Err}
use Rattle.std.specs.Result.{is_err, result_map_both, result_unwrap_or}
use Rattle.pytext.specs.Results.{◌>>=◌}
use Rattle.pylock_readers.specs.Environment.{EnvironmentRead, env_of}
use Rattle.pylock_readers.specs.Lock.{LockValue}
use Rattle.pylock_readers.specs.Lock.Reading.{lock_of}
use Rattle.pylock_core.specs.Session.State.{State, first, apply}
use Rattle.pylock_core.specs.Session.Steps.{answer}
use Rattle.pylock_core.specs.declared.answer.Answer.{Answer}
use Rattle.pylock_core.specs.declared.answer.Answer.TheVariants as answers
use Rattle.pylock_run.specs.Line.{input_lines, command_of}
use Rattle.pylock_run.specs.Line.Refusal.{edit_refusal}
use Rattle.pylock_run.specs.Text.Plan.{answer_text}
use Rattle.pylock_run.specs.Text.Refusal.{line_refusal_text, refusal_text}
use Rattle.pylock_run.specs.declared.line.commands.Command.{Command}
use Rattle.pylock_run.specs.declared.line.commands.Command.TheVariants as command
use Rattle.pylock_run.specs.declared.line.refusal.LineRefusal.{LineRefusal}
use Rattle.pylock_run.specs.declared.report.opening.OpenError.{OpenError}
use Rattle.pylock_run.specs.declared.report.opening.OpenError.TheVariants.{Lock, Environment}

abbrev pub refuse_as : {V E : Type 0} → (E → OpenError) → Result V E → Result V OpenError
refuse_as refusal read = result_map_both (λ v. v) refusal read

-- the state in which a run begins, from the lock and from an environment as it was read; or the
-- environment's refusal
abbrev pub state_on : EnvironmentRead → LockValue → Result State OpenError
state_on read lock = do
  environment ← refuse_as Environment read
  Ok (first lock environment.0 environment.1)

-- the same from the bytes of the lock, or the lock's refusal, and then the environment's
unfoldable pub state_in : List ℕ → EnvironmentRead → Result State OpenError
state_in lock read = refuse_as Lock (lock_of lock) >>= state_on read

-- the same from the bytes of both
abbrev pub open_state : List ℕ → List ℕ → Result State OpenError
open_state lock environment = state_in lock (env_of environment)

-- the state after a command, or why it is refused
abbrev pub after_command : State → Command → Result State LineRefusal
after_command state command.Show = Ok state
after_command state (command.Edit edit) = result_map_both (λ s. s) edit_refusal (apply edit state)

unfoldable pub after_line : State → List ℕ → Result State LineRefusal
after_line state line = command_of line >>= (λ command. after_command state command)

-- the state after a line: a refused line changes nothing
abbrev pub state_after : State → List ℕ → State
state_after state line = result_unwrap_or (after_line state line) state

-- the answer of a state from the beginning
abbrev pub current_answer_text : State → List ℕ
current_answer_text state = answer_text state (answer state)

-- how a run prints: an answer as it stands, the refusal of a line by the line's number, and the
-- refusal of a lock or an environment
pub record Shown : Type 0 where
  pub answer : State → List ℕ
  pub line : ℕ → LineRefusal → List ℕ
  pub unopened : OpenError → List ℕ

-- as lines of fields
abbrev pub as_lines : Shown
as_lines = record {
  answer = current_answer_text;
  line = line_refusal_text;
  unopened = refusal_text;
}

-- what a line prints: the answer of the state after it, or its refusal
abbrev pub outcome_text : Shown → ℕ → Result State LineRefusal → List ℕ
outcome_text shown number (Ok after) = shown.answer after
outcome_text shown number (Err refused) = shown.line number refused

abbrev pub line_text : Shown → State → ℕ → List ℕ → List ℕ
line_text shown state number line = outcome_text shown number (after_line state line)

-- what the lines print, the first of them having this number
abbrev pub lines_text : Shown → State → ℕ → List (List ℕ) → List ℕ
lines_text shown state number [] = []
lines_text shown state number (line ∷ lines) =
    line_text shown state number line
    ++ lines_text shown (state_after state line) (number + 1) lines

-- the state after the lines
abbrev pub state_after_all : State → List (List ℕ) → State
state_after_all state [] = state
state_after_all state (line ∷ lines) = state_after_all (state_after state line) lines

-- whether one of the lines is refused
abbrev pub any_refused : State → List (List ℕ) → Bool
any_refused state [] = false
any_refused state (line ∷ lines) =
    is_err (after_line state line) || any_refused (state_after state line) lines

abbrev pub is_plan : Answer → Bool
is_plan (answers.Plan picks) = true
is_plan (answers.Fault id code) = false

-- 0: the last answer is a plan and no line was refused
abbrev pub lines_status : State → List (List ℕ) → ℕ
lines_status state lines =
    if is_plan (answer (state_after_all state lines)) && not (any_refused state lines) then 0 else 1

pub record Report : Type 0 where
  pub text : List ℕ
  pub status : ℕ

-- The report on what a run begins with and on lines: a refused lock or environment is all that is
-- reported; else it is the first answer, and what the lines print.
abbrev pub report_on : Shown → Result State OpenError → List (List ℕ) → Report
report_on shown (Err refusal) lines = record { text = shown.unopened refusal; status = 2 }
report_on shown (Ok state) lines = record {
  text = shown.answer state ++ lines_text shown state 1 lines;
  status = lines_status state lines;
}

-- the report of a run that prints lines, from the bytes of the lock, the environment and the input
abbrev pub report : List ℕ → List ℕ → List ℕ → Report
report lock environment input =
    report_on as_lines (open_state lock environment) (input_lines input)
