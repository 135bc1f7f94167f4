-- Places of a text that was read.
use Rattle.std.proofs.Common.{◌≡◌, ℕ, List, Option, Some, None, refl, subst, sym}
use Rattle.std.specs.Prelude.{IfSome}
use Rattle.pylock_audit.specs.Finding.{LockFindingValue}
use Rattle.pylock_spans.specs.Places.{PlacesValue}
use Rattle.pylock_spans.specs.declared.place.Place.{Place}
use Rattle.toml.specs.Parse.{skip_bom}
use Rattle.pylock_program.specs.Inner.Located.{IsKnownIn}
use Rattle.pylock_program.specs.Located.{IsPlaceIn}

-- what is known of the places that were read is known of the text
pub of_text : (text : List ℕ) (places : Option PlacesValue) (place : Option Place)
    → IfSome places (λ p. p.text ≡ skip_bom text) → IsKnownIn places place → IfSome place (IsPlaceIn (skip_bom text))
of_text text (Some places) place same known = subst (λ t. IfSome place (IsPlaceIn t)) same known
of_text text None place same known = subst (λ p. IfSome p (IsPlaceIn (skip_bom text))) (sym known) tt
