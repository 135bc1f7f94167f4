-- What follows where an optional answer or a choice is known.
use Rattle.std.proofs.Common.{◌≡◌, ◌⊎◌, Bool, true, false, cond, Some, List, [], ◌∷◌, refl, inl, inr}
use Rattle.std.specs.Prelude.{find}

pub cond_cases : {X : Type 0} (b : Bool) (x y z : X) → cond b x y ≡ z → ((b ≡ true) × (x ≡ z)) ⊎ ((b ≡ false) × (y ≡ z))
cond_cases true x y z e = inl (refl, e)
cond_cases false x y z e = inr (refl, e)

-- what is found passes
pub found_passes : {X : Type 0} (p : X → Bool) (xs : List X) (x : X) → find p xs ≡ Some x → p x ≡ true
found_passes p [] x e = absurd cc
found_passes p (y ∷ ys) x e = elim (cond_cases (p y) (Some y) (find p ys) (Some x) e) [
  | inl w ↦ let same : y ≡ x = cc in rw (← same) w.0
  | inr w ↦ found_passes p ys x w.1
]
