-- The pieces that an iterator has left, one after the other.
use Rattle.std.proofs.Common.{◌≡◌, List, [], ◌∷◌, Option, Some, None, refl, sym, ap}
use Rattle.std.proofs.lemmas.Iterator.{YieldsList}

pub yields_next : {S A B : Type 0} (steps : S → Option A → S → Type 0) (v : A → B) (s : S) (left : List B) → YieldsList steps v s left
    → (x : A) (t : S) → steps s (Some x) t → (rest : List B) × (left ≡ v x ∷ rest) × YieldsList steps v t rest
yields_next steps v s [] yields x t step = absurd (yields.runs x t step)
yields_next steps v s (y ∷ rest) yields x t step =
    let on = yields.runs.1 x t step in
    (rest, ap (λ z. z ∷ rest) (sym on.0), record { runs = on.1 })

pub yields_none : {S A B : Type 0} (steps : S → Option A → S → Type 0) (v : A → B) (s : S) (left : List B) → YieldsList steps v s left
    → (t : S) → steps s None t → left ≡ []
yields_none steps v s [] yields t step = refl
yields_none steps v s (y ∷ rest) yields t step = absurd (yields.runs.0 t step)
