-- A change of the extras or the groups that are asked for, whatever the name.
use Rattle.std.specs.Prelude.{ℕ, List}
use Rattle.pymark_core.specs.declared.change.Change.{Change}
use Rattle.pymark_core.specs.declared.change.Change.TheVariants as change
use Rattle.pymark_core.specs.declared.marker.keys.Key.{Key}
use Rattle.pymark_core.specs.declared.marker.keys.Key.TheVariants.{Extras, Groups}
use Rattle.pylock_core.specs.declared.edit.NameChange.{NameChange}
use Rattle.pylock_core.specs.declared.edit.NameChange.TheVariants.{AddExtra, DropExtra}
use Rattle.pylock_core.specs.declared.edit.NameChange.TheVariants.{AddGroup, DropGroup}

-- the change of the environment for a name in normal form
abbrev pub name_change : NameChange → List ℕ → Change
name_change AddExtra name = change.AddExtra name
name_change DropExtra name = change.DropExtra name
name_change AddGroup name = change.AddGroup name
name_change DropGroup name = change.DropGroup name

-- the one key at which it changes an environment
abbrev pub names_key : NameChange → Key
names_key AddExtra = Extras
names_key DropExtra = Extras
names_key AddGroup = Groups
names_key DropGroup = Groups
