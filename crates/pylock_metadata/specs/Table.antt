-- What a table has at a key.
use Rattle.std.specs.Prelude.{ℕ, List, Option, Some}
use Rattle.toml.specs.Data.{Data, Items, Members, array, get_member, no_items}

-- a list, or none
abbrev pub items_in : Option Data → Items
items_in (Some (array items)) = items
items_in field = no_items

abbrev pub items_at : List ℕ → Members → Items
items_at key members = items_in (get_member key members)
