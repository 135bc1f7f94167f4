-- What holds along each permutation.
use Rattle.std.proofs.Common.{ℕ, zero, suc, ◌<◌, List, [], ◌∷◌, length, get_or, set, swap, arith, IsPermutation}
use Rattle.std.proofs.lemmas.List.Sorted.{IsPermutation-keeps}

-- a relation that is reflexive and transitive, and goes under a first element and over an exchange of the first two
module _ {X : Type 0} (R : List X → List X → Type 0) (same : (xs : List X) → R xs xs) (skip : (x : X) (xs ys : List X) → R xs ys → R (x ∷ xs) (x ∷ ys))
    (turn : (x y : X) (xs : List X) → R (x ∷ y ∷ xs) (y ∷ x ∷ xs)) (chain : (xs ys zs : List X) → R xs ys → R ys zs → R xs zs) where
  to_head : (l : List X) (j : ℕ) (x d : X) → j < length l → R (x ∷ l) (get_or l j d ∷ set l j x)
  to_head [] j x d below = absurd (omega arith)
  to_head (y ∷ l) zero x d below = turn x y l
  to_head (y ∷ l) (suc j) x d below =
      chain _ _ _ (turn x y l) (chain _ _ _ (skip y _ _ (to_head l j x d (omega arith))) (turn y (get_or l j d) (set l j x)))

  exchanged : (l : List X) (i j : ℕ) (d : X) → i < length l → j < length l → R l (set (set l i (get_or l j d)) j (get_or l i d))
  exchanged [] i j d p q = absurd (omega arith)
  exchanged (x ∷ l) zero zero d p q = same (x ∷ l)
  exchanged (x ∷ l) zero (suc j) d p q = to_head l j x d (omega arith)
  exchanged (x ∷ l) (suc i) zero d p q = to_head l i x d (omega arith)
  exchanged (x ∷ l) (suc i) (suc j) d p q = skip x _ _ (exchanged l i j d (omega arith) (omega arith))

  swapped : (l : List X) (i j : ℕ) → i < length l → j < length l → R l (swap l i j)
  swapped [] i j p q = same []
  swapped (x ∷ l) i j p q = exchanged (x ∷ l) i j x p q

  pub along : (xs ys : List X) → IsPermutation xs ys → R xs ys
  along xs = IsPermutation-keeps xs (R xs) (same xs) (λ l i j p q before. chain xs l _ before (swapped l i j p q))
