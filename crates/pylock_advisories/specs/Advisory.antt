-- An advisory in OSV's format, as far as it counts: versions are those of PEP 440.
use Rattle.std.specs.Prelude.{ℕ, Bool, List}
use Rattle.pyver_core.specs.Version.Parts.{Parts}

-- a range: the versions of its events of each kind, whether one is `introduced` `0`, which stands
-- below every version, and whether one is `limit` `*`, which stands above every version
pub record RangeValue : Type 0 where
  pub is_from_start : Bool
  pub introduced : List Parts
  pub fixed : List Parts
  pub last_affected : List Parts
  pub is_unlimited : Bool
  pub limits : List Parts

-- an element of `affected`: the package's name in normal form, the versions that are listed, the
-- listed texts that are no version, and the ranges
pub record AffectedValue : Type 0 where
  pub name : List ℕ
  pub versions : List Parts
  pub texts : List (List ℕ)
  pub ranges : List RangeValue

-- an advisory, with the elements of `affected` that are of packages of PyPI
pub record AdvisoryValue : Type 0 where
  pub id : List ℕ
  pub aliases : List (List ℕ)
  pub is_withdrawn : Bool
  pub affected : List AffectedValue
