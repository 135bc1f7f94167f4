-- What an element of `dependencies` names (PEP 751, `packages.dependencies`).
use Rattle.std.specs.Prelude.{ℕ, ◌==◌, ◌-◌, Bool, false, codes, List, [], ◌∷◌, nat_eq}
use Rattle.std.specs.Prelude.{Option, Some, None, if◌then◌else◌, option_and_then}
use Rattle.std.specs.List.{flat_map}
use Rattle.std.specs.Option.{option_map_or}
use Rattle.std.specs.Str.{bytes_eq}
use Rattle.indexmap.specs.IndexSet.{insert_key}
use Rattle.toml.specs.Data.{Data, Items, Members, as_array, as_str, as_table, get_item, get_member}
use Rattle.toml.specs.Data.{item, no_items}
use Rattle.pytext.specs.Options.{either}
use Rattle.pyver_core.specs.Name.{normal_name}
use Rattle.pylock_metadata.specs.Meets.{has_others}

-- ---- the picks by their names

-- the name of an entry, and the number of its pick
abbrev pub Row : Type 0
Row = List ℕ × ℕ

-- the pick of this name; a plan has one of a name, and of more it is the last
abbrev pub number_of : List Row → List ℕ → Option ℕ
number_of [] name = None
number_of (row ∷ rows) name =
    either (number_of rows name) (if bytes_eq name row.0 then Some row.1 else None)

-- ---- the tables of entries

-- the table of the entry of this number, from 1
abbrev pub table_at : ℕ → Items → Option Members
table_at number packages =
    if number == 0 then None else option_and_then as_table (get_item (number - 1) packages)

abbrev pub elements_in : Members → Option Items
elements_in entry = option_and_then as_array (get_member (codes "dependencies") entry)

-- the elements of its `dependencies`
abbrev pub elements_at : ℕ → Items → Option Items
elements_at number packages = option_and_then elements_in (table_at number packages)

-- ---- what an element names

-- the entry of this number has each key of the element but `name`
abbrev pub is_meant : Items → Members → ℕ → Bool
is_meant packages element number =
    option_map_or (has_others element) (table_at number packages) false

-- how the pick of a name is found
abbrev pub Find : Type 0
Find = List ℕ → Option ℕ

-- the pick of the normal form of a name, where it is meant
abbrev pub named : Items → Find → Members → List ℕ → Option ℕ
named packages find element name =
    option_and_then (λ number. if is_meant packages element number then Some number else None)
    (find (normal_name name))

abbrev pub named_in : Items → Find → Members → Option ℕ
named_in packages find element =
    option_and_then (named packages find element)
    (option_and_then as_str (get_member (codes "name") element))

-- an element is a table
abbrev pub named_by : Items → Find → Data → Option ℕ
named_by packages find element = option_and_then (named_in packages find) (as_table element)

-- ---- the dependencies of the picks

-- the numbers, with one more where it is none of them
abbrev pub with_number : List ℕ → Option ℕ → List ℕ
with_number numbers None = numbers
with_number numbers (Some number) = insert_key nat_eq numbers number

-- the numbers, with those that elements name, each where it comes first
abbrev pub with_named : Items → Find → List ℕ → Items → List ℕ
with_named packages find numbers no_items = numbers
with_named packages find numbers (item d ds) =
    with_named packages find (with_number numbers (named_by packages find d)) ds

pub record DependentValue : Type 0 where
  pub number : ℕ
  pub depends_on : List ℕ

-- a pick with those that these elements name
abbrev pub dependent_with : Items → Find → ℕ → Items → DependentValue
dependent_with packages find number elements = record {
  number = number;
  depends_on = with_named packages find [] elements;
}

-- a pick, where its entry has `dependencies`
abbrev pub dependent_of : Items → Find → ℕ → List DependentValue
dependent_of packages find number =
    option_map_or (λ elements. dependent_with packages find number elements ∷ [])
    (elements_at number packages) []

-- those of these rows, in order
abbrev pub dependents_of : Items → Find → List Row → List DependentValue
dependents_of packages find rows = flat_map (λ row. dependent_of packages find row.1) rows
