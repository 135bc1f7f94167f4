-- The options of `plan` and `explain`: the edits that each means, and the state after them.
use Rattle.std.specs.Prelude.{ℕ, Bool, true, ◌&&◌, List, [], ◌∷◌, ◌++◌, map, codes, if◌then◌else◌}
use Rattle.std.specs.Prelude.{Option, Some, None}
use Rattle.std.specs.Prelude.{option_map, option_and_then, ok_or, Result, Ok}
use Rattle.std.specs.List.{list_any}
use Rattle.std.specs.Result.{result_ok}
use Rattle.std.specs.Str.{bytes_eq}
use Rattle.pytext.specs.Results.{◌>>=◌}
use Rattle.pyver_core.specs.Name.{is_name, normal_name}
use Rattle.pymark_core.specs.Variables.{variable_of}
use Rattle.pymark_core.specs.declared.change.Change.TheVariants as change
use Rattle.pywheel_core.specs.Texts.{cut_at}
use Rattle.pylock_command.specs.declared.option.PlanOption.{PlanOption}
use Rattle.pylock_command.specs.declared.option.PlanOption.TheVariants as option
use Rattle.pylock_core.specs.Session.Names.{name_change}
use Rattle.pylock_core.specs.Session.State.{State, after_edits}
use Rattle.pylock_core.specs.declared.edit.Edit.{Edit}
use Rattle.pylock_core.specs.declared.edit.Edit.TheVariants as edit
use Rattle.pylock_core.specs.declared.edit.NameChange.TheVariants.{AddExtra, AddGroup, DropGroup}
use Rattle.pylock_core.specs.declared.edit.Policy.{Policy as FilePolicy}
use Rattle.pylock_core.specs.declared.edit.Policy.TheVariants.{Wheel, Source}
use Rattle.pylock_readers.specs.Entry.{EntryValue}
use Rattle.pylock_matrix.specs.declared.setting.Setting.{Setting}
use Rattle.pylock_program.specs.declared.options.NameEdit.{NameEdit}
use Rattle.pylock_program.specs.declared.options.NameEdit.TheVariants.{Change, Policy}

-- ---- the edits that an option means

-- what an option does with a name, whose normal form counts
abbrev pub name_edit : NameEdit → List ℕ → Edit
name_edit (Change change) name = edit.Environment (name_change change (normal_name name))
name_edit (Policy policy) name = edit.Policy (normal_name name) policy

-- the edit of a text, where that is a name
abbrev pub edit_of_name : NameEdit → List ℕ → Option (List Edit)
edit_of_name edit name = if is_name name then Some (name_edit edit name ∷ []) else None

-- a policy of the name, or with `:all:` of the name of each entry
abbrev pub policies : State → FilePolicy → List ℕ → Option (List Edit)
policies state policy text =
    if bytes_eq text (codes ":all:")
    then Some (map (λ entry. name_edit (Policy policy) entry.1.name) state.entries)
    else edit_of_name (Policy policy) text

-- `VARIABLE=VALUE`, cut at the first `=`, which has to be there
abbrev pub setting_of : List ℕ → Option Setting
setting_of text =
    option_and_then (λ cut. option_map
    (λ variable. record { variable = variable; text = cut.1 }) (variable_of cut.0))
    (cut_at 61 text)

-- the edit that sets it
abbrev pub set_edits : Setting → List Edit
set_edits setting = edit.Environment (change.Set setting.variable setting.text) ∷ []

abbrev pub set_variable : List ℕ → Option (List Edit)
set_variable text = option_map set_edits (setting_of text)

-- an entry has this name
abbrev pub is_named : List ℕ → EntryValue → Bool
is_named name entry = bytes_eq (normal_name name) (normal_name entry.name)

abbrev pub has_entry : State → List ℕ → Bool
has_entry state name = is_name name && list_any (λ entry. is_named name entry.1) state.entries

-- no edits, where that is so
abbrev pub no_edits_if : Bool → Option (List Edit)
no_edits_if is_so = if is_so then Some [] else None

-- the edits of an option, in order; none where its text is none. What is left of a plan isn't
-- edited.
abbrev pub edits_of : State → PlanOption → Option (List Edit)
edits_of state option.AllExtras = Some (map (name_edit (Change AddExtra)) state.head.extras)
edits_of state (option.Extra name) = edit_of_name (Change AddExtra) name.now
edits_of state option.NoDefaultGroups =
    Some (map (name_edit (Change DropGroup)) state.head.default_groups)
edits_of state option.AllGroups =
    Some (map (name_edit (Change AddGroup)) state.head.groups
    ++ map (name_edit (Change AddGroup)) state.head.default_groups)
edits_of state (option.Group name) = edit_of_name (Change AddGroup) name.now
edits_of state (option.NoGroup name) = edit_of_name (Change DropGroup) name.now
edits_of state (option.OnlyBinary name) = policies state Wheel name.now
edits_of state (option.NoBinary name) = policies state Source name.now
edits_of state (option.Set text) = set_variable text.now
edits_of state (option.Only name) = no_edits_if (has_entry state name.now)
edits_of state (option.Except name) = no_edits_if (has_entry state name.now)
edits_of state option.NoProject = no_edits_if true

-- ---- the state after options

-- the state after an option, where that isn't refused
abbrev pub after_option : PlanOption → State → Option State
after_option option state =
    option_and_then (λ edits. result_ok (after_edits edits state)) (edits_of state option)

-- the state after options, one after another, or the first that is refused
abbrev pub after_options : List PlanOption → State → Result State PlanOption
after_options [] state = Ok state
after_options (option ∷ options) state =
    ok_or (after_option option state) option >>= after_options options
