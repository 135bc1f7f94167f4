-- The places of a lock.
use Rattle.std.specs.Prelude.{◌≡◌, ℕ, ◌≤◌, All, List, length, take}
use Rattle.pylock_spans.specs.declared.place.Place.{Place}
use Rattle.pylock_spans.specs.declared.start.EntryStart.{EntryStart}
use Rattle.pylock_spans.specs.Place.{place_of}

-- the text without a byte order mark, and where its entries begin
pub record PlacesValue : Type 0 where
  pub text : List ℕ
  pub entries : List EntryStart

-- the place of what follows so many bytes of the text
abbrev pub IsPlaceAt : List ℕ → ℕ → Place → Type 0
IsPlaceAt text at place = (at ≤ length text) × (place ≡ place_of (take at text))

-- an entry begins at a byte of the text, whose place is told
abbrev pub IsStart : List ℕ → EntryStart → Type 0
IsStart text start = IsPlaceAt text start.at start.place

abbrev pub AreStarts : List ℕ → List EntryStart → Type 0
AreStarts text starts = All (IsStart text) starts
