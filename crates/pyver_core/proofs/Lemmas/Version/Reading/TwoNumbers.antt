-- A release has two numbers or more where a dot and a number stand after the first.
use Rattle.std.proofs.Common.{◌≡◌, ℕ, true, List, ◌∷◌, length, Option, Some, None, refl, arith, inl, inr}
use Rattle.std.specs.Prelude.{is_some, nat_le, option_map}
use Rattle.std.proofs.lemmas.Bool.Decides.{nat_tests}
use Rattle.pyver_core.specs.Version.Reading.{dotted_number_at, many_at}
use Rattle.pyver_core.proofs.Lemmas.Version.Reading.Many.{dotted_shrinks, many_at-none, many_at-some}
use Rattle.pytext.proofs.OptionsLemmas.{option_cases}

two-more : (a b : ℕ) (ns : List ℕ) → true ≡ nat_le 2 (length (a ∷ b ∷ ns))
two-more a b ns = grind (arith, nat_tests)

pub two_numbers : (first : ℕ) (others : List ℕ) → is_some (dotted_number_at others) ≡ nat_le 2 (length (first ∷ (many_at dotted_number_at others).0))
two_numbers first others = elim (option_cases (dotted_number_at others)) [
  | inl none ↦ rw (none, many_at-none dotted_number_at others none) refl
  | inr some ↦ rw (some.1, many_at-some dotted_number_at dotted_shrinks others some.0 some.1) (two-more first some.0.0 (many_at dotted_number_at some.0.1).0)
]

pub is_some-option_map : {X Y : Type 0} (f : X → Y) (o : Option X) → is_some (option_map f o) ≡ is_some o
is_some-option_map f None = refl
is_some-option_map f (Some x) = refl
