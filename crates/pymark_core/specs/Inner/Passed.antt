-- The places of a text at which another text doesn't begin.
use Rattle.std.specs.Prelude.{◌≡◌, ℕ, ◌<◌, ◌≤◌, List, drop, false, nat_eq}
use Rattle.std.specs.List.{starts_with}

-- x begins at none of these places of a text, of which the last is before `to`
abbrev pub BeginsNowhere : List ℕ → List ℕ → ℕ → ℕ → Type 0
BeginsNowhere x text from to =
    (place : ℕ) → from ≤ place → place < to → starts_with nat_eq (drop place text) x ≡ false
