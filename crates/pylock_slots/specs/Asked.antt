-- What `select` is asked, as a record of fields.
use Rattle.std.specs.Prelude.{◌≡◌, ◌⊎◌, ℕ, List, [], ◌∷◌, ◌++◌, Bool, true, false, codes}
use Rattle.std.specs.Prelude.{if◌then◌else◌, Option, None, Some}
use Rattle.std.specs.List.{flat_map, list_all}
use Rattle.std.specs.Str.{is_utf8}
use Rattle.clap.specs.Words.{Text, fault_of, subcommand_of}
use Rattle.pylock_command.specs.CommandLine.{IsRefusal, IsTask, misuse_of, pylock_app}
use Rattle.pylock_command.specs.declared.command_line.CommandError.{CommandError}
use Rattle.pylock_command.specs.declared.form.Form.{Form}
use Rattle.pylock_command.specs.declared.form.Form.TheVariants.{Json, Lines}
use Rattle.pylock_command.specs.declared.machine.Machine.{Machine}
use Rattle.pylock_command.specs.declared.machine.Machine.TheVariants as machine
use Rattle.pylock_command.specs.declared.task.Opening.{Opening}
use Rattle.pylock_command.specs.declared.task.Task.{Task}
use Rattle.pylock_command.specs.declared.task.Task.TheVariants as task
use Rattle.pylock_memory.specs.Parts.{cut_by}
use Rattle.pylock_run.specs.Text.Field.{field}

-- a field behind a TAB
abbrev pub next_field : Option (List ℕ) → List ℕ
next_field part = 9 ∷ field part

abbrev pub flag_text : Bool → List ℕ → Option (List ℕ)
flag_text asked word = if asked then Some word else None

-- the path of an environment, or the Python and the platform of a target
abbrev pub machine_fields : Machine → List (Option (List ℕ))
machine_fields (machine.File path) = Some path.now ∷ None ∷ None ∷ []
machine_fields (machine.Target target) =
    None ∷ Some target.python.now ∷ Some target.platform.now ∷ []

abbrev pub json_text : Form → Option (List ℕ)
json_text Json = Some (codes "json")
json_text Lines = None

-- the lock, the machine, and what is asked for beside them
abbrev pub select_record : Opening → Form → List ℕ
select_record opening form = field (Some opening.lock.now)
    ++ flat_map next_field (machine_fields opening.machine)
    ++ next_field (flag_text opening.strict (codes "strict")) ++ next_field (json_text form)

-- nothing where something else is asked
abbrev pub task_record : Task → List ℕ
task_record (task.Select opening form) = select_record opening form
task_record other = []

-- the words are a task, of which nothing is refused
pub record AsksTask (words : List Text) (record_told : List ℕ) : Type 0 where
  pub asked : Task
  pub taken : fault_of pylock_app words ≡ []
  pub used : misuse_of (subcommand_of pylock_app words) ≡ None
  pub is : IsTask (subcommand_of pylock_app words) asked
  pub told : record_told ≡ task_record asked

-- or they are refused
pub record AsksNothing (words : List Text) (record_told : List ℕ) : Type 0 where
  pub error : CommandError
  pub refusal : IsRefusal words error
  pub told : record_told ≡ []

abbrev pub Asks : List Text → List ℕ → Type 0
Asks words told = AsksTask words told ⊎ AsksNothing words told

-- the same of words that are bytes, and come joined
abbrev pub AsksIfText : Bool → List (List ℕ) → List ℕ → Type 0
AsksIfText true words told = Asks words told
AsksIfText false words told = told ≡ []

pub record AsksOfJoined (lengths words told : List ℕ) : Type 0 where
  pub parts : List (List ℕ)
  pub cut : cut_by lengths words ≡ Some parts
  pub asks : AsksIfText (list_all is_utf8 parts) parts told
