-- Texts joined by a separator.
use Rattle.std.proofs.Common.{◌≡◌, ℕ, List, [], ◌∷◌, ◌++◌, map, refl, ap}
use Rattle.std.specs.List.{flat_map, join_by}

pieces-map : {X : Type 0} (f : X → List ℕ) (sep : List ℕ) (xs : List X)
    → flat_map (λ y. sep ++ f y) xs ≡ flat_map (λ y. sep ++ y) (map f xs)
pieces-map f sep [] = refl
pieces-map f sep (x ∷ xs) = ap (λ t. (sep ++ f x) ++ t) (pieces-map f sep xs)

-- what is joined are the texts alone
pub joined_texts : {X : Type 0} (f : X → List ℕ) (sep : List ℕ) (xs : List X)
    → join_by f sep xs ≡ join_by (λ t. t) sep (map f xs)
joined_texts f sep [] = refl
joined_texts f sep (x ∷ xs) = ap (λ t. f x ++ t) (pieces-map f sep xs)
