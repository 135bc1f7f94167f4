-- What is made of numbers of any size, where numbers past the limit are refused.
use Rattle.std.specs.Prelude.{◌≡◌, ℕ, true, false, List, Result, Ok, Err}
use Rattle.pyver_core.specs.Version.Grammar.{has_large}
use Rattle.pyver_core.specs.declared.version.error.VersionError.{VersionError}
use Rattle.pyver_core.specs.declared.version.error.VersionError.TheVariants.{Syntax, NumberTooLarge}
use Rattle.pyver_core.specs.declared.version.error.VersionError.TheVariants.{Memory}

-- these numbers are refused so: for memory, or since one of them is past the limit
abbrev pub Refuses : VersionError → List ℕ → Type 0
Refuses Syntax ns = ⊥
Refuses NumberTooLarge ns = has_large ns ≡ true
Refuses Memory ns = Unit {0}

-- what was made, seen by view, is this value, and none of its numbers is past the limit; or they
-- are refused
abbrev pub Makes : {X Y : Type 0} → (X → Y) → Result X VersionError → Y → List ℕ → Type 0
Makes view (Ok x) y ns = (view x ≡ y) × (has_large ns ≡ false)
Makes view (Err e) y ns = Refuses e ns
