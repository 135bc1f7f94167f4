-- Two lists, element by element.
use Rattle.std.specs.Prelude.{List, [], ◌∷◌}

-- they are equally long, and the relation holds of each element and the one at the same place
abbrev pub AreEach : {A B : Type 0} → (A → B → Type 0) → List A → List B → Type 0
AreEach Holds [] [] = Unit {0}
AreEach Holds (one ∷ others) (its ∷ more) = Holds one its × AreEach Holds others more
AreEach Holds _ _ = ⊥
