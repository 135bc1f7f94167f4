-- Places as they are looked up.
use Rattle.std.specs.Prelude.{◌≡◌, IfSome, Option, Some, None}
use Rattle.pylock_spans.specs.Places.{PlacesValue}
use Rattle.pylock_spans.specs.declared.place.Place.{Place}
use Rattle.pylock_program.specs.Located.{IsPlaceIn}

-- the place is one of the text that was read, and none where none was
abbrev pub IsKnownIn : Option PlacesValue → Option Place → Type 0
IsKnownIn (Some places) place = IfSome place (IsPlaceIn places.text)
IsKnownIn None place = place ≡ None
