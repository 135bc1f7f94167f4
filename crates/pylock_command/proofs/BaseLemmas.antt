-- A text that is cut at its first `=`.
use Rattle.std.proofs.Common.{◌≡◌, ◌<◌, ◌==◌, ℕ, Bool, true, false, Bor, List, Option, None, Some, MatchOption, arith, length, option_map, refl}
use Rattle.std.proofs.lemmas.Bool.{eq-eqb, eqb-true}
use Rattle.std.specs.List.{after_first, before_first, position_or_len}
use Rattle.pylock_command.specs.Base.{around_equals, is_equals}

-- a place before the end isn't the end
not_last : (place last : ℕ) → place < last → (place == last) ≡ false
not_last place last before = by (place == last) refl
  where
    by : (b : Bool) → (place == last) ≡ b → b ≡ false
    by true same = let e : place ≡ last = eqb-true place last same in absurd (omega (arith, e, before))
    by false same = refl

pub around_equals_is : (text : List ℕ) (r : Option (Bor (List ℕ) × Bor (List ℕ)))
    → MatchOption r (position_or_len is_equals text ≡ length text)
    (λ x. (x.0.now ≡ before_first is_equals text) × (x.1.now ≡ after_first is_equals text) × (position_or_len is_equals text < length text))
    → option_map (λ x. (x.0.now, x.1.now)) r ≡ around_equals text
around_equals_is text None none = rw (eq-eqb (position_or_len is_equals text) (length text) none) refl
around_equals_is text (Some x) found =
    rw (not_last (position_or_len is_equals text) (length text) found.2) (λ i. Some (found.0 i, found.1 i))
