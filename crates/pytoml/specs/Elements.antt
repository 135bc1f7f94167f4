-- What is left at the key of an array of which the elements were handed out.
use Rattle.std.specs.Prelude.{◌≡◌, ℕ, Bool, true, false, List, Option, Some, None}
use Rattle.toml.specs.Data.{Data, array, Items, no_items, item, Members, get_member}

-- an array that isn't empty
abbrev pub has_elements : Option Data → Bool
has_elements (Some (array (item d ds))) = true
has_elements _ = false

-- the members lack the array that these elements were handed out of: where there are some, nothing
-- stands at the key; where there are none, no array that isn't empty does
abbrev pub LacksElements : List ℕ → Items → Members → Type 0
LacksElements key no_items ms = has_elements (get_member key ms) ≡ false
LacksElements key (item d ds) ms = get_member key ms ≡ None
