-- Records: fields with a TAB between.
use Rattle.std.specs.Prelude.{ℕ, List, [], ◌∷◌, codes, Option, Some, None}
use Rattle.std.specs.List.{join_by}
use Rattle.pylock_run.specs.Text.Field.{field}

-- the record of these parts, some of which may be absent
abbrev pub record_of : List (Option (List ℕ)) → List ℕ
record_of parts = join_by field (codes "\t") parts

-- a TAB and a field
abbrev pub next_field : Option (List ℕ) → List ℕ
next_field part = 9 ∷ field part

-- a part of items with a separator between them, absent where there are none
abbrev pub joined : {X : Type 0} → (X → List ℕ) → List ℕ → List X → Option (List ℕ)
joined text separator [] = None
joined text separator (item ∷ items) = Some (join_by text separator (item ∷ items))
