-- The newest of the versions that a specifier set admits.
use Rattle.std.specs.Prelude.{◌≡◌, ◌&&◌, if◌then◌else◌, true, false, List, Option, Some, None, All}
use Rattle.std.specs.Prelude.{Contains}
use Rattle.pyver_core.specs.Set.Admission.{admits_all}
use Rattle.pyver_core.specs.Version.Order.{IsBefore, is_before}
use Rattle.pyver_core.specs.Version.Parts.{Parts}
use Rattle.pyver_core.specs.declared.set.specifier.Specifier.{Specifier}

-- one of the versions, which the set admits, and which stands before none that the set admits
pub record IsNewest (set : List Specifier) (versions : List Parts) (v : Parts) : Type 0 where
  pub given : Contains versions v
  pub admitted : admits_all set v ≡ true
  pub newest : All (λ w. admits_all set w ≡ true → IsBefore v w → ⊥) versions

-- the newest; or none, where the set admits none
abbrev pub PicksNewest : List Specifier → List Parts → Option Parts → Type 0
PicksNewest set versions (Some v) = IsNewest set versions v
PicksNewest set versions None = All (λ w. admits_all set w ≡ false) versions

-- the newest so far, or one version more where the set admits it and it is newer
abbrev pub newer : List Specifier → Option Parts → Parts → Option Parts
newer set None x = if admits_all set x then Some x else None
newer set (Some v) x = if admits_all set x && is_before v x then Some x else Some v
