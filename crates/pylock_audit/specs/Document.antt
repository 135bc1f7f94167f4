-- The findings as a document: the members of the object that is shown.
use Rattle.std.specs.Prelude.{List, [], ◌∷◌, codes, map, Some}
use Rattle.pylock_json.specs.Json.{Row, list_of, maybe, numbered, object_of, there}
use Rattle.pylock_audit.specs.Finding.{LockFindingValue}
use Rattle.pylock_audit.specs.Words.{finding_word}

abbrev pub finding_rows : LockFindingValue → List Row
finding_rows found =
    (codes "id", numbered found.number)
    ∷ (codes "name", maybe found.name)
    ∷ (codes "finding", there (finding_word found.finding.kind))
    ∷ (codes "detail", maybe found.finding.detail)
    ∷ []

abbrev pub findings_rows : List LockFindingValue → List Row
findings_rows found =
    (codes "findings", Some (list_of (map (λ one. object_of (finding_rows one)) found))) ∷ []
