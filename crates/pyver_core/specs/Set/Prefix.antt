-- What `==R.*` names (PEP 440, "Version matching").
use Rattle.std.specs.Prelude.{ℕ, List}

-- an epoch and the numbers that a release begins with
pub record Prefix : Type 0 where
  pub epoch : ℕ
  pub release : List ℕ
