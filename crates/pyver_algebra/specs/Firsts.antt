-- The first version of a release: its developmental release 0 (PEP 440, "Developmental releases").
use Rattle.std.specs.Prelude.{ℕ, ◌+◌, List, [], ◌∷◌, Some, None}
use Rattle.pyver_core.specs.Version.Parts.{Parts}

abbrev pub first_of : ℕ → List ℕ → Parts
first_of epoch release = record {
  epoch = epoch;
  release = release;
  pre = None;
  post = None;
  dev = Some 0;
  local = [];
}

-- the numbers with one more at the last
abbrev pub with_last_raised : List ℕ → List ℕ
with_last_raised [] = []
with_last_raised (n ∷ []) = (n + 1) ∷ []
with_last_raised (m ∷ n ∷ rest) = m ∷ with_last_raised (n ∷ rest)
