-- What a run of the program in memory leaves.
use Rattle.std.specs.Prelude.{◌≡◌, ◌⊎◌, ℕ, List, [], Some, None, Result, Ok, Err}
use Rattle.std.specs.Prelude.{Bool, true, false}
use Rattle.std.specs.List.{list_all}
use Rattle.std.specs.Str.{is_utf8}
use Rattle.clap.specs.Words.{Text, fault_of, kind_of, subcommand_of}
use Rattle.clap.specs.declared.error.kind.ErrorKind.{ErrorKind}
use Rattle.clap.specs.declared.error.kind.ErrorKind.TheVariants.{DisplayHelp, DisplayVersion}
use Rattle.pylock_command.specs.CommandLine.{IsRefusal, IsTask, misuse_of, pylock_app}
use Rattle.pylock_command.specs.declared.command_line.CommandError.{CommandError}
use Rattle.pylock_command.specs.declared.command_line.CommandError.TheVariants as command_error
use Rattle.pylock_command.specs.declared.task.Task.{Task}
use Rattle.pylock_program.specs.Program.{Performs, failure_status}
use Rattle.pylock_program.specs.declared.failure.Failure.{Failure}
use Rattle.pylock_program.specs.declared.failure.Failure.TheVariants.{Memory, NotText, Write}
use Rattle.pylock_run.specs.Stream.{SourceValue}
use Rattle.pylock_memory.specs.Files.{FileValue, files_by_turns, reads_of}

-- a write fails only where memory is refused
abbrev pub in_memory : Failure → Failure
in_memory Write = Memory
in_memory failure = failure

abbrev pub end_in_memory : Result ℕ Failure → Result ℕ Failure
end_in_memory (Ok status) = Ok status
end_in_memory (Err failure) = Err (in_memory failure)

abbrev pub status_of : Result ℕ Failure → ℕ
status_of (Ok status) = status
status_of (Err failure) = failure_status failure

-- The task was done on these files and this standard input: the program, on a host that has them,
-- ends so with this output.
pub record IsDone (files : List FileValue) (task : Task) (input : List ℕ) (end : Result ℕ Failure)
    (output : List ℕ) : Type 0 where
  pub host_end : Result ℕ Failure
  pub source : SourceValue
  pub failures : ℕ
  pub performs : Performs (reads_of files) task (record { rest = Some input; failures = 0 }) source
      (record { held = Some []; failures = 0 }) (record { held = Some output; failures = failures })
      host_end
  pub is : end ≡ end_in_memory host_end

-- the status where clap says something: help and the version aren't mistakes
abbrev pub IsExit : ErrorKind → ℕ → Type 0
IsExit DisplayHelp status = status ≡ 0
IsExit DisplayVersion status = status ≡ 0
IsExit _ status = status ≡ 2

abbrev pub IsRefusedEnd : CommandError → Result ℕ Failure → Type 0
IsRefusedEnd (command_error.Refused error) (Ok status) = IsExit (kind_of error) status
IsRefusedEnd (command_error.Refused error) (Err failure) = failure ≡ Memory
IsRefusedEnd command_error.Memory end = end ≡ Err Memory

-- the words are a task, of which nothing is refused, and it was done
pub record DoesTask (words : List Text) (files : List FileValue) (input : List ℕ)
    (end : Result ℕ Failure) (output : List ℕ) : Type 0 where
  pub task : Task
  pub taken : fault_of pylock_app words ≡ []
  pub used : misuse_of (subcommand_of pylock_app words) ≡ None
  pub asked : IsTask (subcommand_of pylock_app words) task
  pub done : IsDone files task input end output

-- the words are refused, or ask for help or the version
pub record IsRefused (words : List Text) (end : Result ℕ Failure) : Type 0 where
  pub error : CommandError
  pub refusal : IsRefusal words error
  pub is : IsRefusedEnd error end

abbrev pub IsRun : List Text → List FileValue → List ℕ → Result ℕ Failure → List ℕ → Type 0
IsRun words files input end output =
    DoesTask words files input end output ⊎ IsRefused words end

-- words that are no text are refused, and nothing is printed
abbrev pub IsRunIfText : (are_texts : Bool) → List (List ℕ) → List FileValue → List ℕ
    → Result ℕ Failure → List ℕ → Type 0
IsRunIfText true words files input end output = IsRun words files input end output
IsRunIfText false words files input end output = (end ≡ Err NotText) × (output ≡ [])

-- the same of words and files that are given as bytes
abbrev pub IsRunOfBytes : List (List ℕ) → List (List ℕ) → List ℕ → Result ℕ Failure → List ℕ
    → Type 0
IsRunOfBytes words files input end output = (end ≡ Err Memory)
    ⊎ IsRunIfText (list_all is_utf8 words) words (files_by_turns files) input end output
