-- Releases that come next.
use Rattle.std.proofs.Common.{◌≡◌, ℕ, ◌+◌, List, [], ◌∷◌, ◌++◌, refl, ap}
use Rattle.pyver_algebra.specs.Firsts.{with_last_raised}

pub raised_behind : (front : List ℕ) (last : ℕ) → with_last_raised (front ++ last ∷ []) ≡ front ++ (last + 1) ∷ []
raised_behind [] last = refl
raised_behind (x ∷ []) last = refl
raised_behind (x ∷ y ∷ ys) last = ap (λ (zs : List ℕ). x ∷ zs) (raised_behind (y ∷ ys) last)
