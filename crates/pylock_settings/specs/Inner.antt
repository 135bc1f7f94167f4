-- What stands for a table that is lent, or for none.
use Rattle.std.specs.Prelude.{Option, Some, None}
use Rattle.std.specs.BTreeMap.{BTreeMap}
use Rattle.std.specs.Borrow.{Bor}
use Rattle.std.specs.declared.alloc.Global.{Global}
use Rattle.std.specs.declared.string.String.{String}
use Rattle.toml.specs.Data.{Members, no_members}
use Rattle.toml.specs.View.{table_view}
use Rattle.toml.specs.declared.value.Value.{Value}

-- no table is as an empty one
abbrev pub lent_members : Option (Bor (BTreeMap (String Global) Value)) → Members
lent_members None = no_members
lent_members (Some table) = table_view table.now
