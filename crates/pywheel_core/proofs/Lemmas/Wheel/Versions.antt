-- A text that spells a version within the limit is taken for it.
use Rattle.std.proofs.Common.{◌≡◌, ℕ, List, Some, Ok, refl, inl, inr}
use Rattle.std.proofs.lemmas.Bool.{cases_Bool}
use Rattle.pyver_core.specs.Version.Grammar.{IsLarge, has_large, numbers}
use Rattle.pyver_core.specs.Version.Parts.{Parts}
use Rattle.pyver_core.specs.Version.Reading.{version_of}
use Rattle.pyver_core.specs.Parsed.{parsed_version}
use Rattle.pywheel_core.specs.Wheel.Reading.{version_in}

pub version_taken : (text : List ℕ) (v : Parts) → version_of text ≡ Some v → (IsLarge v → ⊥) → version_in text ≡ Ok v
unfolding version_in parsed_version
version_taken text v h fits = elim (cases_Bool (has_large (numbers v))) [
  | inl e ↦ absurd (fits e)
  | inr e ↦ rw (h, e) refl
]
