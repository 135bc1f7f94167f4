-- Findings at their places in the text of a lock.
use Rattle.std.specs.Prelude.{◌≡◌, ℕ, ◌++◌, List, [], ◌∷◌, codes, map, IfSome, Option, Some}
use Rattle.std.specs.Prelude.{option_map}
use Rattle.serde_json.specs.Data.{Data}
use Rattle.toml.specs.Parse.{skip_bom}
use Rattle.pylock_audit.specs.Document.{finding_rows}
use Rattle.pylock_audit.specs.Finding.{LockFindingValue}
use Rattle.pylock_json.specs.Json.{Row, list_of, maybe_numbered, object_of}
use Rattle.pylock_spans.specs.Places.{IsPlaceAt}
use Rattle.pylock_spans.specs.declared.place.Place.{Place}
use Rattle.pylock_program.specs.Each.{AreEach}
use Rattle.pylock_program.specs.Text.Audit.{ignored_rows}
use Rattle.pylock_program.specs.declared.located.Located.{Located}

-- the line and the column of a byte of the text
abbrev pub IsPlaceIn : List ℕ → Place → Type 0
IsPlaceIn text place = (at : ℕ) × IsPlaceAt text at place

-- the finding, at a place of the text of the lock, if it has one
abbrev pub IsLocated : List ℕ → LockFindingValue → Located → Type 0
IsLocated text one located =
    (located.finding.now ≡ one) × IfSome located.place (IsPlaceIn (skip_bom text))

-- each of the findings, in order
abbrev pub AreLocated : List ℕ → List LockFindingValue → List Located → Type 0
AreLocated text found located = AreEach (IsLocated text) found located

-- ---- the document

-- a place that isn't known has no member
abbrev pub place_rows : Option Place → List Row
place_rows place =
    (codes "line", maybe_numbered (option_map (λ p. p.line) place))
    ∷ (codes "column", maybe_numbered (option_map (λ p. p.column) place))
    ∷ []

abbrev pub located_rows : Located → List Row
located_rows located = finding_rows located.finding.now ++ place_rows located.place

abbrev pub located_data : Located → Data
located_data located = object_of (located_rows located)

-- the findings that count at their places, beside how many are ignored
abbrev pub audit_rows : ℕ → List Located → List Row
audit_rows ignored located =
    (codes "findings", Some (list_of (map located_data located))) ∷ ignored_rows ignored
