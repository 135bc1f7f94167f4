-- Rows: values, each under a name. What OLD and NEW have under each name is what is compared.
use Rattle.std.specs.Prelude.{ℕ, ◌++◌, List, [], ◌∷◌, map, filter}
use Rattle.std.specs.BTreeSet.{insert_key}
use Rattle.std.specs.Cmp.Lexicographic.{slice_cmp}
use Rattle.std.specs.List.{flat_map}
use Rattle.std.specs.Ordering.{nat_cmp}
use Rattle.std.specs.Str.{bytes_eq}

-- a value under a name
abbrev pub Row : Type 0 → Type 0
Row V = List ℕ × V

abbrev pub names_of : {V : Type 0} → List (Row V) → List (List ℕ)
names_of rows = map (λ row. row.0) rows

-- the values under a name, in the order of their rows
abbrev pub values_at : {V : Type 0} → List ℕ → List (Row V) → List V
values_at name rows = map (λ row. row.1) (filter (λ row. bytes_eq name row.0) rows)

-- texts in order, and others put among them, where they aren't there yet
abbrev pub put_among : List (List ℕ) → List (List ℕ) → List (List ℕ)
put_among sorted [] = sorted
put_among sorted (text ∷ texts) = put_among (insert_key (slice_cmp nat_cmp) sorted text) texts

-- texts in order of code point, which is that of their bytes, each once (the law
-- `texts_stand_in_order`)
abbrev pub in_order : List (List ℕ) → List (List ℕ)
in_order texts = put_among [] texts

-- what is told of each name that either has, in order: of the name, and of what stands under it in
-- OLD and in NEW
abbrev pub under_each : {V C : Type 0} → (List ℕ → List V → List V → List C)
    → (olds news : List (Row V)) → List C
under_each told olds news =
    flat_map (λ name. told name (values_at name olds) (values_at name news))
    (in_order (names_of olds ++ names_of news))
