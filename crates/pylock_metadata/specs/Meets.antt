-- Whether a value is what is wanted of it, key by key (PEP 751, `packages.dependencies`).
use Rattle.std.specs.Prelude.{Bool, true, false, ◌==◌, ◌&&◌, ◌||◌, codes}
use Rattle.std.specs.Option.{option_map_or}
use Rattle.std.specs.Str.{bytes_eq}
use Rattle.toml.specs.Data.{Data, Items, Members, array, as_array, as_str, as_table, get_member}
use Rattle.toml.specs.Data.{item, member, no_items, no_members, string, table, type_of}
use Rattle.pytoml_code.specs.Code.{code}

-- values of one type with one code, which are equal (the law `equal_codes_are_of_equal_values` of
-- `pytoml_code`)
abbrev pub is_equal : Data → Data → Bool
is_equal wanted given = type_of wanted == type_of given && bytes_eq (code wanted) (code given)

abbrev mutual
  -- of a table at least these keys are wanted, each with what is wanted there; of an array as many
  -- elements, each with what is wanted of it; anything else is to be equal
  pub meets : Data → Data → Bool
  meets (string text) given = option_map_or (bytes_eq text) (as_str given) false
  meets (array items) given = option_map_or (λ given. all_meet items given) (as_array given) false
  meets (table members) given =
      option_map_or (λ given. has_members members given) (as_table given) false
  meets wanted given = is_equal wanted given

  pub all_meet : Items → Items → Bool
  all_meet no_items no_items = true
  all_meet no_items (item e es) = false
  all_meet (item d ds) no_items = false
  all_meet (item d ds) (item e es) = meets d e && all_meet ds es

  pub has_members : Members → Members → Bool
  has_members no_members given = true
  has_members (member key d rest) given =
      option_map_or (λ e. meets d e) (get_member key given) false && has_members rest given

-- an entry has each key of an element but `name`, with what is wanted there
abbrev pub has_others : Members → Members → Bool
has_others no_members entry = true
has_others (member key d rest) entry =
    (bytes_eq key (codes "name") || option_map_or (λ e. meets d e) (get_member key entry) false)
    && has_others rest entry
