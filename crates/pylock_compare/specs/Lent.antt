-- What stands for values that are lent: texts and rows.
use Rattle.std.specs.Prelude.{ℕ, List, [], map}
use Rattle.std.specs.Borrow.{Bor}
use Rattle.std.specs.BTreeMap.{BTreeMap, get_by}
use Rattle.std.specs.Cmp.Lexicographic.{slice_cmp}
use Rattle.std.specs.Global.{Global}
use Rattle.std.specs.List.{flat_map}
use Rattle.std.specs.Option.{option_map_or}
use Rattle.std.specs.Ordering.{nat_cmp}
use Rattle.std.specs.declared.vec.Vec.{Vec}
use Rattle.pylock_compare.specs.Rows.{Row}
use Rattle.pylock_compare.specs.declared.rows.Sides.{Sides}

-- texts
abbrev pub lent_texts : List (Bor (List ℕ)) → List (List ℕ)
lent_texts texts = map (λ text. text.now) texts

-- rows, each a value under a text
abbrev pub lent_rows : {V : Type 0} → List (Bor (List ℕ) × V) → List (Row V)
lent_rows rows = map (λ row. (row.0.now, row.1)) rows

-- the values under a name in a table
abbrev pub found : {V : Type 0} → BTreeMap (Bor (List ℕ)) (Vec V Global) → List ℕ → List V
found table name =
    option_map_or (λ values. values.items) (get_by (λ key. slice_cmp nat_cmp name key.now) table) []

-- what is told of each of these names, of what both sides have under it, each value as it is seen
abbrev pub each_told : {V W C : Type 0} → (V → W) → (List ℕ → List W → List W → List C) → Sides V
    → List (Bor (List ℕ)) → List C
each_told view told sides names =
    flat_map
    (λ name. told name.now (map view (found sides.olds name.now))
    (map view (found sides.news name.now))) names

-- and of each name that the sides have
abbrev pub told_under : {V W C : Type 0} → (V → W) → (List ℕ → List W → List W → List C) → Sides V
    → List C
told_under view told sides = each_told view told sides sides.names.items
