-- What follows where it is known what an option is.
use Rattle.std.proofs.Common.{◌≡◌, ◌⊎◌, Option, Some, None, refl, inl, inr}
use Rattle.std.specs.Prelude.{option_map}
use Rattle.pytext.specs.Options.{◌>>=◌, either}

pub option_cases : {X : Type 0} (o : Option X) → (o ≡ None) ⊎ ((x : X) × (o ≡ Some x))
option_cases None = inl refl
option_cases (Some x) = inr (x, refl)

-- the value of a step that went on
pub bind_some : {X Y : Type 0} (o : Option X) (f : X → Option Y) (y : Y) → (o >>= f) ≡ Some y → (x : X) × (o ≡ Some x) × (f x ≡ Some y)
bind_some None f y e = absurd cc
bind_some (Some x) f y e = (x, refl, e)

pub map_some : {X Y : Type 0} (o : Option X) (f : X → Y) (y : Y) → option_map f o ≡ Some y → (x : X) × (o ≡ Some x) × (f x ≡ y)
map_some None f y e = absurd cc
map_some (Some x) f y e = let same : f x ≡ y = cc in (x, refl, same)

-- the choice that gave a value
pub either_some : {X : Type 0} (o p : Option X) (y : X) → either o p ≡ Some y → (o ≡ Some y) ⊎ (p ≡ Some y)
either_some None p y e = inr e
either_some (Some x) p y e = inl e
