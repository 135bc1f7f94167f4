-- The changes as a document: the members of the object that is shown. A field that is absent has no
-- member.
use Rattle.std.specs.Prelude.{List, [], ◌∷◌, codes, map, Some}
use Rattle.pylock_json.specs.Json.{Row, list_of, maybe, object_of, there}
use Rattle.pylock_diff.specs.Change.{ChangeValue, change_word}

abbrev pub change_rows : ChangeValue → List Row
change_rows change =
    (codes "change", there (change_word change.kind))
    ∷ (codes "name", maybe change.name)
    ∷ (codes "from", maybe change.from)
    ∷ (codes "to", maybe change.to)
    ∷ []

abbrev pub changes_rows : List ChangeValue → List Row
changes_rows changes =
    (codes "changes", Some (list_of (map (λ change. object_of (change_rows change)) changes))) ∷ []
