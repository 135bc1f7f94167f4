-- What the commands of an input ask for: one definition for each, with its refusals in order.
use Rattle.std.specs.Prelude.{ℕ, codes, List, [], if◌then◌else◌, Option, Some, None, Result, Ok}
use Rattle.std.specs.Prelude.{Err, unwrap_or}
use Rattle.std.specs.Option.{ok_or}
use Rattle.std.specs.Result.{result_map_both}
use Rattle.std.specs.Str.{bytes_eq}
use Rattle.pyver_core.specs.Name.{is_name, normal_name}
use Rattle.pytext.specs.Results.{◌>>=◌}
use Rattle.pymark_core.specs.Variables.{variable_of}
use Rattle.pymark_core.specs.declared.change.Change.{Change}
use Rattle.pymark_core.specs.declared.change.Change.TheVariants as change
use Rattle.pymark_core.specs.declared.variable.Var.{Var}
use Rattle.pywheel_core.specs.Tag.{TagValue, tags_of}
use Rattle.pylock_readers.specs.Entry.{EntryValue}
use Rattle.pylock_readers.specs.Entry.Reading.{entry_of}
use Rattle.pylock_core.specs.declared.edit.Edit.{Edit}
use Rattle.pylock_core.specs.declared.edit.Edit.TheVariants as edit
use Rattle.pylock_core.specs.declared.edit.Policy.{Policy}
use Rattle.pylock_core.specs.declared.edit.Policy.TheVariants as policy
use Rattle.pylock_run.specs.Line.Argument.{nonempty_text, number_argument, pieces, split_at_space}
use Rattle.pylock_run.specs.Line.Refusal.{entry_refusal, tags_refusal}
use Rattle.pylock_run.specs.declared.line.commands.Command.{Command}
use Rattle.pylock_run.specs.declared.line.commands.Command.TheVariants as command
use Rattle.pylock_run.specs.declared.line.refusal.LineRefusal.{LineRefusal}
use Rattle.pylock_run.specs.declared.line.refusal.LineRefusal.TheVariants as refusal

-- ---- what an argument names

abbrev pub variable_argument : List ℕ → Result Var LineRefusal
variable_argument name = ok_or (variable_of name) refusal.Variable

-- the normal form of a name, or this refusal
abbrev pub name_or : LineRefusal → List ℕ → Result (List ℕ) LineRefusal
name_or refused text = if is_name text then Ok (normal_name text) else Err refused

abbrev pub entry_argument : List ℕ → Result EntryValue LineRefusal
entry_argument text = result_map_both (λ entry. entry) entry_refusal (entry_of text)

abbrev pub tags_argument : List (List ℕ) → Result (List TagValue) LineRefusal
tags_argument texts = result_map_both (λ tags. tags) tags_refusal (tags_of texts)

abbrev pub policy_argument : List ℕ → Result Policy LineRefusal
policy_argument word =
    if bytes_eq word (codes "any") then Ok policy.Any
    else if bytes_eq word (codes "wheel") then Ok policy.Wheel
    else if bytes_eq word (codes "source") then Ok policy.Source
    else Err refusal.Argument

-- ---- commands

-- `show`
abbrev pub show_after : Option (List ℕ) → Result Command LineRefusal
show_after None = Ok command.Show
show_after (Some argument) = Err refusal.Argument

-- `set NAME VALUE`: the value is any text, also the empty one
unfoldable pub set_after : List ℕ → Result Change LineRefusal
set_after argument = do
  cut ← split_at_space argument
  variable ← variable_argument cut.0
  Ok (change.Set variable cut.1)

-- `unset NAME`
unfoldable pub unset_after : List ℕ → Result Change LineRefusal
unset_after argument = do
  name ← nonempty_text argument
  variable ← variable_argument name
  Ok (change.Unset variable)

-- The argument of `extra+` and `extra-`, and of `group+` and `group-`: a name. Whether the lock
-- knows it is the edit's to judge, and refused by the same word.
unfoldable pub name_after : LineRefusal → List ℕ → Result (List ℕ) LineRefusal
name_after refused argument = do
  name ← nonempty_text argument
  name_or refused name

-- `extra+ NAME`, `extra- NAME`, `group+ NAME` and `group- NAME`
abbrev pub named_after : (List ℕ → Change) → LineRefusal → List ℕ → Result Change LineRefusal
named_after change refused argument = do
  name ← name_after refused argument
  Ok (change name)

-- `tags TAG TAG ..`: tags with spaces between them, which may be none
unfoldable pub tags_after : List ℕ → Result Edit LineRefusal
tags_after argument = do
  tags ← tags_argument (pieces argument)
  Ok (edit.Tags tags)

-- `add ENTRY`
unfoldable pub add_after : List ℕ → Result Edit LineRefusal
add_after argument = do
  body ← nonempty_text argument
  entry ← entry_argument body
  Ok (edit.Add entry)

-- `put ID ENTRY`
unfoldable pub put_after : List ℕ → Result Edit LineRefusal
put_after argument = do
  cut ← split_at_space argument
  number ← number_argument cut.0
  body ← nonempty_text cut.1
  entry ← entry_argument body
  Ok (edit.Put number entry)

-- `del ID`
unfoldable pub del_after : List ℕ → Result Edit LineRefusal
del_after argument = do
  number ← number_argument argument
  Ok (edit.Del number)

-- `policy NAME POLICY`
unfoldable pub policy_after : List ℕ → Result Edit LineRefusal
policy_after argument = do
  cut ← split_at_space argument
  policy ← policy_argument cut.1
  name ← name_or refusal.Name cut.0
  Ok (edit.Policy name policy)

-- ---- all of them

-- the change of the environment that a command's word and its argument ask for
unfoldable pub change_after : (word argument : List ℕ) → Result Change LineRefusal
change_after word argument =
    if bytes_eq word (codes "set") then set_after argument
    else if bytes_eq word (codes "unset") then unset_after argument
    else if bytes_eq word (codes "extra+") then named_after change.AddExtra refusal.Extra argument
    else if bytes_eq word (codes "extra-") then named_after change.DropExtra refusal.Extra argument
    else if bytes_eq word (codes "group+") then named_after change.AddGroup refusal.Group argument
    else if bytes_eq word (codes "group-") then named_after change.DropGroup refusal.Group argument
    else Err refusal.Command

-- the edit of a change
abbrev pub change_edit : Result Change LineRefusal → Result Edit LineRefusal
change_edit read = read >>= λ change. Ok (edit.Environment change)

-- the edit that they ask for
unfoldable pub edit_after : (word argument : List ℕ) → Result Edit LineRefusal
edit_after word argument =
    if bytes_eq word (codes "tags") then tags_after argument
    else if bytes_eq word (codes "add") then add_after argument
    else if bytes_eq word (codes "put") then put_after argument
    else if bytes_eq word (codes "del") then del_after argument
    else if bytes_eq word (codes "policy") then policy_after argument
    else change_edit (change_after word argument)

-- the command of an edit
abbrev pub edit_command : Result Edit LineRefusal → Result Command LineRefusal
edit_command read = read >>= λ edit. Ok (command.Edit edit)

-- what a command's word and its argument ask for; an edit takes an absent argument as an empty one
unfoldable pub command_after : List ℕ → Option (List ℕ) → Result Command LineRefusal
command_after word argument =
    if bytes_eq word (codes "show") then show_after argument
    else edit_command (edit_after word (unwrap_or argument []))
