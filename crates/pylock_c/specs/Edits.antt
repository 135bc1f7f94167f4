-- The changes and the commands of C. Their texts are judged as texts first, from the left.
use Rattle.std.specs.Prelude.{ℕ, List, [], ◌∷◌, map, if◌then◌else◌, Result, Ok, Err}
use Rattle.std.specs.List.{list_all, slice_split}
use Rattle.std.specs.Result.{result_map_both}
use Rattle.pytext.specs.Results.{◌>>=◌}
use Rattle.pyver_core.specs.Name.{is_name, normal_name}
use Rattle.pymark_core.specs.declared.change.Change.{Change}
use Rattle.pymark_core.specs.declared.change.Change.TheVariants as change
use Rattle.pywheel_core.specs.Target.Reading.{target_of}
use Rattle.pywheel_core.specs.Target.Tags.{target_tags}
use Rattle.pywheel_core.specs.Target.Value.{TargetValue}
use Rattle.pywheel_core.specs.declared.error.TargetError.{TargetError}
use Rattle.pylock_readers.specs.Entry.{EntryValue}
use Rattle.pylock_core.specs.declared.edit.Edit.{Edit}
use Rattle.pylock_core.specs.declared.edit.Edit.TheVariants as edit
use Rattle.pylock_core.specs.declared.edit.NameChange.{NameChange}
use Rattle.pylock_run.specs.Line.{is_lf}
use Rattle.pylock_run.specs.Line.Commands.{change_edit, edit_command, entry_argument, name_or}
use Rattle.pylock_run.specs.Line.Commands.{policy_argument, tags_argument, variable_argument}
use Rattle.pylock_run.specs.declared.line.commands.Command.{Command}
use Rattle.pylock_run.specs.declared.line.commands.Command.TheVariants as command
use Rattle.pylock_run.specs.declared.line.refusal.LineRefusal.{LineRefusal}
use Rattle.pylock_run.specs.declared.line.refusal.LineRefusal.TheVariants as line
use Rattle.pylock_slots.specs.Text.{text_argument}
use Rattle.pylock_slots.specs.declared.kept_session.NamesEdit.{NamesEdit}
use Rattle.pylock_slots.specs.declared.kept_session.NamesEdit.TheVariants as names_edit

-- ---- lists

-- the texts of a list, with an LF between two; none where there is no text
abbrev pub listed_texts : List ℕ → List (List ℕ)
listed_texts [] = []
listed_texts (b ∷ bs) = slice_split is_lf (b ∷ bs)

-- the normal forms of a list of names, which are any texts
abbrev pub names_argument : List ℕ → Result (List (List ℕ)) LineRefusal
names_argument bytes = do
  text ← text_argument bytes
  Ok (map normal_name (listed_texts text))

-- an edit of several names: these extras or groups, which are any texts
abbrev pub names_change : NameChange → List ℕ → Result (NamesEdit × List (List ℕ)) LineRefusal
names_change change bytes = do
  names ← names_argument bytes
  Ok (names_edit.Change change, names)

-- the normal forms of these texts, where each is a name
abbrev pub each_name : List (List ℕ) → Result (List (List ℕ)) LineRefusal
each_name texts =
    if list_all is_name texts then Ok (map normal_name texts) else Err line.Name

-- the policy of each of these names
abbrev pub names_policy : List ℕ → List ℕ → Result (NamesEdit × List (List ℕ)) LineRefusal
names_policy bytes word = do
  text ← text_argument bytes
  word ← text_argument word
  policy ← policy_argument word
  names ← each_name (listed_texts text)
  Ok (names_edit.Policy policy, names)

-- ---- changes of an environment

abbrev pub set_change : List ℕ → List ℕ → Result Change LineRefusal
set_change name value = do
  name ← text_argument name
  value ← text_argument value
  variable ← variable_argument name
  Ok (change.Set variable value)

abbrev pub unset_change : List ℕ → Result Change LineRefusal
unset_change name = do
  name ← text_argument name
  variable ← variable_argument name
  Ok (change.Unset variable)

-- of an extra or a dependency group, by any text: whether a lock knows it is an edit's to judge
abbrev pub named_change : (List ℕ → Change) → List ℕ → Result Change LineRefusal
named_change change name = do
  name ← text_argument name
  Ok (change (normal_name name))

-- ---- commands of a session

-- a change of its environment
abbrev pub change_command : Result Change LineRefusal → Result Command LineRefusal
change_command read = edit_command (change_edit read)

abbrev pub tags_command : List ℕ → Result Command LineRefusal
tags_command bytes = do
  text ← text_argument bytes
  tags ← tags_argument (listed_texts text)
  Ok (command.Edit (edit.Tags tags))

-- the tags of a target
abbrev pub target_argument : Result TargetValue TargetError → Result TargetValue LineRefusal
target_argument read = result_map_both (λ target. target) (λ error. line.Argument) read

abbrev pub target_command : List ℕ → List ℕ → Result Command LineRefusal
target_command python platform = do
  python ← text_argument python
  platform ← text_argument platform
  target ← target_argument (target_of python platform)
  Ok (command.Edit (edit.Tags (target_tags target)))

-- an edit by the text of an entry
abbrev pub entry_command : (EntryValue → Edit) → List ℕ → Result Command LineRefusal
entry_command edit bytes = do
  text ← text_argument bytes
  entry ← entry_argument text
  Ok (command.Edit (edit entry))

abbrev pub policy_command : List ℕ → List ℕ → Result Command LineRefusal
policy_command name word = do
  name ← text_argument name
  word ← text_argument word
  policy ← policy_argument word
  name ← name_or line.Name name
  Ok (command.Edit (edit.Policy name policy))
