-- What is left of a plan by `--only`, `--except` and `--no-project`.
use Rattle.std.specs.Prelude.{ℕ, Bool, true, false, ◌&&◌, ◌||◌, not, codes, filter, List}
use Rattle.std.specs.List.{list_any}
use Rattle.std.specs.Option.{option_map_or}
use Rattle.std.specs.Str.{bytes_eq}
use Rattle.pylock_command.specs.declared.option.PlanOption.{PlanOption}
use Rattle.pylock_command.specs.declared.option.PlanOption.TheVariants.{Except, NoProject, Only}
use Rattle.pylock_core.specs.Session.State.{State, entry_at}
use Rattle.pylock_core.specs.declared.answer.Answer.{Answer}
use Rattle.pylock_core.specs.declared.answer.Answer.TheVariants.{Plan, Fault}
use Rattle.pylock_core.specs.declared.answer.Pick.{Pick}
use Rattle.pylock_readers.specs.Entry.{DirectoryValue, EntryValue}
use Rattle.pylock_program.specs.PlanOptions.{is_named}

-- the option asks for some packages alone; for this one
abbrev pub asks_alone : PlanOption → Bool
asks_alone (Only name) = true
asks_alone option = false

abbrev pub asks_for : EntryValue → PlanOption → Bool
asks_for entry (Only name) = is_named name.now entry
asks_for entry option = false

-- the directory is editable, or the folder of the lock
abbrev pub is_own : DirectoryValue → Bool
is_own directory = directory.editable || bytes_eq directory.path (codes ".")

abbrev pub is_project : EntryValue → Bool
is_project entry = option_map_or is_own entry.directory false

-- the option leaves this package out
abbrev pub leaves_out : EntryValue → PlanOption → Bool
leaves_out entry (Except name) = is_named name.now entry
leaves_out entry NoProject = is_project entry
leaves_out entry option = false

-- where some packages are asked for alone it is one of them, and no option leaves it out
abbrev pub is_left : List PlanOption → EntryValue → Bool
is_left options entry = (not (list_any asks_alone options) || list_any (asks_for entry) options)
    && not (list_any (leaves_out entry) options)

abbrev pub is_left_of : List PlanOption → State → Pick → Bool
is_left_of options state pick =
    option_map_or (is_left options) (entry_at pick.id state.entries) true

-- the picks that are left, in their order; a fault stays
abbrev pub left_answer : List PlanOption → State → Answer → Answer
left_answer options state (Plan picks) = Plan (filter (is_left_of options state) picks)
left_answer options state (Fault id code) = Fault id code

-- ---- options that leave nothing out

abbrev pub narrows : PlanOption → Bool
narrows (Only name) = true
narrows (Except name) = true
narrows NoProject = true
narrows option = false

abbrev pub leaves_all : List PlanOption → Bool
leaves_all options = not (list_any narrows options)
