-- What the file names of wheels say, by the place of the wheel.
use Rattle.std.proofs.Common.{◌≡◌, ℕ, suc, zero, List, [], ◌∷◌, map, Option, refl}
use Rattle.std.specs.Prelude.{option_and_then, slice_get}

pub read_at : {A B : Type 0} (read : A → Option B) (xs : List A) (n : ℕ)
    → option_and_then (λ name. name) (slice_get (map read xs) n) ≡ option_and_then read (slice_get xs n)
read_at read [] n = refl
read_at read (x ∷ xs) zero = refl
read_at read (x ∷ xs) (suc n) = read_at read xs n
