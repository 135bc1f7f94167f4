-- Documents in JSON (RFC 8259), whose members are put one after another.
use Rattle.std.specs.Prelude.{◌≡◌, ℕ, List, [], ◌∷◌, Bool, false, map}
use Rattle.std.specs.Prelude.{Option, IfSome, Some, option_map}
use Rattle.std.specs.Option.{option_map_or}
use Rattle.serde_json.specs.Data.{Data, array, boolean, number, object, string, unsigned}
use Rattle.serde_json.specs.Data.{Items, no_items, item, Members, no_members, put}
use Rattle.serde_json.specs.Written.{has_float}

-- a key, and its value where there is one
abbrev pub Row : Type 0
Row = List ℕ × Option Data

-- the members with one more, where it is there
abbrev pub with_row : Row → Members → Members
with_row row members = option_map_or (λ d. put row.0 d members) row.1 members

abbrev pub with_rows : List Row → Members → Members
with_rows [] members = members
with_rows (row ∷ rows) members = with_rows rows (with_row row members)

-- an object of the members that are there
abbrev pub members_of : List Row → Members
members_of rows = with_rows rows no_members

abbrev pub object_of : List Row → Data
object_of rows = object (members_of rows)

abbrev pub items_of : List Data → Items
items_of [] = no_items
items_of (d ∷ ds) = item d (items_of ds)

abbrev pub list_of : List Data → Data
list_of ds = array (items_of ds)

-- a list of texts
abbrev pub texts_of : List (List ℕ) → Data
texts_of texts = list_of (map string texts)

-- a text that is there, and one that may be
abbrev pub there : List ℕ → Option Data
there text = Some (string text)

abbrev pub maybe : Option (List ℕ) → Option Data
maybe = option_map string

abbrev pub numbered : ℕ → Option Data
numbered n = Some (number (unsigned n))

-- a number that may be there
abbrev pub maybe_numbered : Option ℕ → Option Data
maybe_numbered = option_map (λ n. number (unsigned n))

-- true or false
abbrev pub truth : Bool → Option Data
truth value = Some (boolean value)

-- A row has no float.
abbrev pub HasNone : Row → Type 0
HasNone row = IfSome row.1 (λ d. has_float d ≡ false)
