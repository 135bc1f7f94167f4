-- Partners: entries of a name that are alike in both locks in all keys, known and unknown. They
-- drop out first, one to one; the rows speak of the rest.
use Rattle.std.specs.Prelude.{List, [], ◌∷◌, map, Some}
use Rattle.std.specs.List.{flat_map}
use Rattle.pylock_compare.specs.Partners.{are_alone, where_true}
use Rattle.pylock_compare.specs.Texts.{Texts}
use Rattle.pylock_diff.specs.Codes.{Rows}
use Rattle.pylock_diff.specs.Item.{ItemValue}

-- keys with their codes, as one list of texts
abbrev pub row_texts : Rows → Texts
row_texts rows = flat_map (λ row. Some row.0 ∷ Some row.1 ∷ []) rows

abbrev pub item_key : ItemValue → Texts
item_key item = row_texts item.keys

-- the items that have no partner among the others
abbrev pub without_partners : (items others : List ItemValue) → List ItemValue
without_partners items others =
    where_true (are_alone (map item_key items) (map item_key others)) items
