-- Tables out of which values are taken.
use Rattle.std.specs.Prelude.{ℕ, false, List, if◌then◌else◌}
use Rattle.toml.specs.Data.{Members, no_members, member, boolean, same_key}

-- the members, with something small in the place of the value at a key
unfoldable pub table_without : List ℕ → Members → Members
table_without key no_members = no_members
table_without key (member k d rest) =
    if same_key key k then member k (boolean false) rest else member k d (table_without key rest)
