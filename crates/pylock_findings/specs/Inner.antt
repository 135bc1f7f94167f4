-- What serves contracts inside the crate alone.
use Rattle.std.specs.Prelude.{◌≡◌, ℕ, Bool, false, nat_lt, List, [], ◌∷◌, Option, Some, None}
use Rattle.pylock_audit.specs.Finding.{LockFindingValue}
use Rattle.pylock_findings.specs.All.{AreOthers}
use Rattle.pylock_findings.specs.Merging.{from_number, merged, numbers_below}
use Rattle.pylock_readers.specs.Lock.{LockValue}

-- the first of a list is taken if it has a lower number than this
abbrev pub IsTaken : ℕ → (old new : List LockFindingValue) → Option LockFindingValue → Type 0
IsTaken number old new None =
    (new ≡ old) × (numbers_below number old ≡ []) × (from_number number old ≡ old)
IsTaken number old new (Some other) =
    (old ≡ other ∷ new) × (numbers_below number old ≡ other ∷ numbers_below number new)
    × (from_number number old ≡ from_number number new)

-- a finding is there and has a lower number than this
abbrev pub is_below : ℕ → Option LockFindingValue → Bool
is_below number None = false
is_below number (Some first) = nat_lt first.number number

-- what is found, with such others in one list
pub record AreWithOthers (environments : Bool) (lock : LockValue)
    (found all : List LockFindingValue) : Type 0 where
  pub others : List LockFindingValue
  pub are_others : AreOthers environments lock others
  pub is : all ≡ merged found others
