-- What the program does with its task, and how it ends.
use Rattle.std.specs.Borrow.{Bor}
use Rattle.std.specs.Prelude.{◌≡◌, ◌≢◌, ◌⊎◌, ◌∷◌, ℕ, Bool, List, codes}
use Rattle.std.specs.Prelude.{Option, Some, None}
use Rattle.std.specs.Prelude.{Result, Ok, Err}
use Rattle.std.specs.Result.{result_map_both}
use Rattle.pylock_command.specs.declared.form.Form.{Form}
use Rattle.pylock_command.specs.declared.machine.Machine.{Machine}
use Rattle.pylock_command.specs.declared.task.AuditQuestion.{AuditQuestion}
use Rattle.pylock_command.specs.declared.task.CheckMatrixQuestion.{CheckMatrixQuestion}
use Rattle.pylock_command.specs.declared.task.CheckQuestion.{CheckQuestion}
use Rattle.pylock_command.specs.declared.task.Installation.{Installation}
use Rattle.pylock_command.specs.declared.task.MatrixQuestion.{MatrixQuestion}
use Rattle.pylock_command.specs.declared.task.Task.{Task}
use Rattle.pylock_command.specs.declared.task.Task.TheVariants as task
use Rattle.pylock_program.specs.Audit.{EndsUnwritten, PrintsAudit, opened_audit, words_of}
use Rattle.pylock_program.specs.Check.{PrintsCheck, opened_check}
use Rattle.pylock_program.specs.CheckMatrix.{PrintsTargets, as_matrix, opened_targets}
use Rattle.pylock_program.specs.Diff.{locks_report, plans_report}
use Rattle.pylock_program.specs.Files.{question_lists}
use Rattle.pylock_program.specs.Matrix.{matrix_report}
use Rattle.pylock_program.specs.Opening.{opened_by}
use Rattle.pylock_program.specs.Paths.{AreRead, IsMachineRead, IsMaybeRead, IsReadAs}
use Rattle.pylock_program.specs.Refusal.{PrintsTelling, refusal_report}
use Rattle.pylock_program.specs.Reply.{marker_report}
use Rattle.pylock_program.specs.Reply.{target_report, text_report}
use Rattle.pylock_program.specs.Show.{question_report, run_shown}
use Rattle.pylock_program.specs.Status.{status_report}
use Rattle.pylock_program.specs.Summary.{summary_report}
use Rattle.pylock_core.specs.Session.State.{State}
use Rattle.pylock_messages.specs.Diagnostic.{DiagnosticValue}
use Rattle.pylock_readers.specs.Environment.{EnvironmentRead}
use Rattle.pylock_run.specs.Files.{Reads}
use Rattle.pylock_run.specs.Report.{Report}
use Rattle.pylock_run.specs.Report.Print.{Prints}
use Rattle.pylock_run.specs.Report.Run.{IsRunShown}
use Rattle.pylock_run.specs.Stream.{SourceValue, SinkValue}
use Rattle.pylock_program.specs.declared.failure.Failure.{Failure}
use Rattle.pylock_program.specs.declared.failure.Failure.TheVariants.{NotText, File, Read, Write}
use Rattle.pylock_program.specs.declared.failure.Failure.TheVariants.{Input, Memory}
use Rattle.pylock_program.specs.declared.opening.Unopened.{Unopened}
use Rattle.pylock_program.specs.declared.refusal.Cause.TheVariants as cause
use Rattle.pylock_run.specs.declared.report.fault.RunFault.{RunFault}
use Rattle.pylock_run.specs.declared.report.fault.RunFault.TheVariants as run

-- how the program ends where a run, a query or the reading of a file stops
abbrev pub run_failure : RunFault → Failure
run_failure run.Read = Read
run_failure run.Write = Write
run_failure run.Input = Input
run_failure run.Memory = Memory

-- what stands on standard error behind `pylock: `, where it isn't told yet
abbrev pub failure_message : Failure → Option (List ℕ)
failure_message NotText = Some (codes "a word of the command line is not UTF-8")
failure_message File = None
failure_message Read = Some (codes "read")
failure_message Write = Some (codes "write")
failure_message Input = Some (codes "input")
failure_message Memory = Some (codes "memory")

-- 2: the command line is refused
abbrev pub failure_status : Failure → ℕ
failure_status NotText = 2
failure_status _ = 3

-- what stands there before a task is done where standard input is a terminal
abbrev pub terminal_note : Task → Option (List ℕ)
terminal_note (task.Select opening form) =
    Some (codes "edit lines are read from standard input; Ctrl-D ends them")
terminal_note _ = None

-- ---- what the program does with a task

-- what is said of standard input, of standard output, and of how the program ends
abbrev pub Outcome : Type 1
Outcome = SourceValue → SourceValue → SinkValue → SinkValue → Result ℕ Failure → Type 0

-- the end of a run or of a reply, whose fault is told as a failure
abbrev pub program_end : Result ℕ RunFault → Result ℕ Failure
program_end end = result_map_both (λ status. status) run_failure end

pub record Tells (IsEnd : Result ℕ RunFault → Type 0) (result : Result ℕ Failure) : Type 0 where
  pub end : Result ℕ RunFault
  pub is_end : IsEnd end
  pub tells : result ≡ program_end end

-- a report is printed, and standard input isn't read
abbrev pub Replies : Report → Outcome
Replies report source source' sink sink' result =
    Tells (Prints report sink sink') result × (source' ≡ source)

-- a report is printed that may tell more of a refusal than its words, whatever it tells
abbrev pub RepliesTelling : (Option DiagnosticValue → Report) → Outcome
RepliesTelling report source source' sink sink' result =
    Tells (PrintsTelling report sink sink') result × (source' ≡ source)

-- A run from its beginning, in the form; or why there is no session is printed, and standard input
-- isn't read.
abbrev pub IsRunOn : Form → Result State Unopened → SourceValue → SourceValue → SinkValue
    → SinkValue → Result ℕ RunFault → Type 0
IsRunOn form (Ok state) source source' sink sink' result =
    IsRunShown (run_shown form) (Ok state) source source' sink sink' result
IsRunOn form (Err unopened) source source' sink sink' result =
    PrintsTelling (λ diagnostic. refusal_report (Some form) diagnostic (cause.Unopened unopened))
    sink sink' result
    × (source' ≡ source)

-- the run on a lock that is taken strictly, or isn't
abbrev pub Runs : Bool → Form → List ℕ → EnvironmentRead → Outcome
Runs strict form lock read source source' sink sink' result =
    Tells (IsRunOn form (opened_by strict lock read) source source' sink sink') result

-- ---- what is read first

-- what that leads to, where it was read; a failure is told, and nothing else is done
abbrev pub LeadsTo : {A : Type 0} → (A → Outcome) → Result A Failure → Outcome
LeadsTo outcome (Ok read) source source' sink sink' result =
    outcome read source source' sink sink' result
LeadsTo outcome (Err failure) source source' sink sink' result =
    (result ≡ Err failure) × (source' ≡ source) × (sink' ≡ sink)

-- it is read, of which standard input may be a part, and leads to the outcome
pub record After {A : Type 0} (IsGiven : SourceValue → SourceValue → Result A Failure → Type 0)
    (outcome : A → Outcome) (source source' : SourceValue) (sink sink' : SinkValue)
    (result : Result ℕ Failure) : Type 0 where
  pub read : Result A Failure
  pub between : SourceValue
  pub given : IsGiven source between read
  pub leads : LeadsTo outcome read between source' sink sink' result

-- what stands at a path
abbrev pub Opens : Reads → List ℕ → (List ℕ → Outcome) → Outcome
Opens gives path = After (IsReadAs gives path)

-- what stands at each of these paths
abbrev pub OpensEach : Reads → List (List ℕ) → (List (List ℕ) → Outcome) → Outcome
OpensEach gives paths = After (AreRead gives paths)

-- what stands at a path, if there is one
abbrev pub OpensMaybe : Reads → Option (Bor (List ℕ)) → (Option (List ℕ) → Outcome) → Outcome
OpensMaybe gives path = After (IsMaybeRead gives path)

-- the environment of a machine
abbrev pub OpensMachine : Reads → Machine → (EnvironmentRead → Outcome) → Outcome
OpensMachine gives machine = After (IsMachineRead gives machine)

-- what the program prints without words; it takes no memory
abbrev pub greeting : Report
greeting = record { text = codes "pylock 1\n"; status = 0 }

abbrev pub Greets : Outcome
Greets source source' sink sink' result =
    Replies greeting source source' sink sink' result × (result ≢ Err Memory)

-- what is found in a lock is printed, and standard input isn't read
abbrev pub Audits : AuditQuestion → List ℕ → List (List ℕ) → Option (List ℕ) → Outcome
Audits asked lock files config source source' sink sink' result =
    Tells (λ end. PrintsAudit asked lock (opened_audit asked lock files config) sink sink' end
    ⊎ EndsUnwritten sink sink' end) result
    × (source' ≡ source)

-- two locks are compared, or what they install on a machine
abbrev pub Compares : Reads → Form → Option Installation → List ℕ → List ℕ → Outcome
Compares gives form None old new =
    RepliesTelling (λ diagnostic. locks_report form diagnostic old new)
Compares gives form (Some asked) old new = OpensMachine gives asked.machine
    (λ read. RepliesTelling
    (λ diagnostic. plans_report form diagnostic asked.options.items old new read))

-- what differs between a project and what a lock installs is printed, and standard input isn't read
abbrev pub Checks : CheckQuestion → List ℕ → EnvironmentRead → List ℕ → Outcome
Checks asked lock read project source source' sink sink' result =
    Tells (λ end. PrintsCheck asked (opened_check asked lock read project) sink sink' end
    ⊎ EndsUnwritten sink sink' end) result
    × (source' ≡ source)

-- the same on each target that `matrix` would show
abbrev pub ChecksTargets : Form → MatrixQuestion → List ℕ → List ℕ → Outcome
ChecksTargets form asked lock project source source' sink sink' result =
    Tells (λ end. PrintsTargets form asked (opened_targets asked lock project) sink sink' end
    ⊎ EndsUnwritten sink sink' end) result
    × (source' ≡ source)

abbrev pub ChecksMatrix : CheckMatrixQuestion → List ℕ → List ℕ → Outcome
ChecksMatrix asked = ChecksTargets asked.form (as_matrix asked)

-- What the program does with each task, by what reads of files may give. `select`, `plan`,
-- `explain`, `status` and `check` read the lock first, and then the environment; then `status`
-- reads what is installed, and `check` the project. `audit` reads the lock first, and then the
-- advisories and the settings. `files` reads the locks in the order of the words.
abbrev pub Performs : Reads → Task → Outcome
Performs gives task.Bare = Greets
Performs gives (task.Show question) =
    Opens gives question.opening.lock.now (λ lock. OpensMachine gives question.opening.machine
    (λ read. RepliesTelling (λ diagnostic. question_report question diagnostic lock read)))
Performs gives (task.Select opening form) =
    Opens gives opening.lock.now (λ lock. OpensMachine gives opening.machine
    (Runs opening.strict form lock))
Performs gives (task.Matrix asked) =
    Opens gives asked.lock.now
    (λ bytes. RepliesTelling (λ diagnostic. matrix_report asked diagnostic bytes))
Performs gives (task.Status asked) =
    Opens gives asked.opening.lock.now (λ lock. OpensMachine gives asked.opening.machine
    (λ read. Opens gives asked.installed.now
    (λ list. RepliesTelling (λ diagnostic. status_report asked diagnostic lock read list))))
Performs gives (task.Check asked) =
    Opens gives asked.opening.lock.now (λ lock. OpensMachine gives asked.opening.machine
    (λ read. Opens gives asked.project.now (Checks asked lock read)))
Performs gives (task.CheckMatrix asked) =
    Opens gives asked.lock.now
    (λ lock. Opens gives asked.project.now (ChecksMatrix asked lock))
Performs gives (task.Summary lock form) =
    Opens gives lock.now
    (λ bytes. RepliesTelling (λ diagnostic. summary_report form diagnostic bytes))
Performs gives (task.Files asked) =
    OpensEach gives (asked.lock.now ∷ words_of asked.others.items)
    (λ files. RepliesTelling (λ diagnostic. question_lists asked diagnostic files))
Performs gives (task.Audit asked) =
    Opens gives asked.lock.now (λ lock. OpensEach gives (words_of asked.advisories.items)
    (λ files. OpensMaybe gives asked.config (Audits asked lock files)))
Performs gives (task.Diff asked) =
    Opens gives asked.old.now (λ old. Opens gives asked.new.now
    (λ new. Compares gives asked.form asked.installation old new))
Performs gives (task.Environment target) =
    RepliesTelling (λ diagnostic. target_report diagnostic target.python.now target.platform.now)
Performs gives (task.Marker text machine form) =
    OpensMachine gives machine
    (λ read. RepliesTelling (λ diagnostic. marker_report form diagnostic text.now read))
Performs gives (task.Text question form) = Replies (text_report question form)
