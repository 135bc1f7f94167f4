-- Changes of an environment.
use Rattle.std.specs.FinSet as set
use Rattle.pymark_core.specs.Environment.{EnvironmentValue, with_variable, without_variable}
use Rattle.pymark_core.specs.declared.change.Change.{Change}
use Rattle.pymark_core.specs.declared.change.Change.TheVariants as change
use Rattle.pymark_core.specs.declared.marker.keys.Key.{Key}
use Rattle.pymark_core.specs.declared.marker.keys.Key.TheVariants.{Of, Extras, Groups}

-- the environment after it; its names are in normal form
abbrev pub changed : Change → EnvironmentValue → EnvironmentValue
changed (change.Set variable text) e = with_variable variable text e
changed (change.Unset variable) e = without_variable variable e
changed (change.AddExtra name) e = record e { extras = set.insert e.extras name }
changed (change.DropExtra name) e = record e { extras = set.remove e.extras name }
changed (change.AddGroup name) e = record e { groups = set.insert e.groups name }
changed (change.DropGroup name) e = record e { groups = set.remove e.groups name }

-- the one key at which it changes an environment
abbrev pub changed_key : Change → Key
changed_key (change.Set variable text) = Of variable
changed_key (change.Unset variable) = Of variable
changed_key (change.AddExtra name) = Extras
changed_key (change.DropExtra name) = Extras
changed_key (change.AddGroup name) = Groups
changed_key (change.DropGroup name) = Groups
