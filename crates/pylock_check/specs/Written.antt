-- Differences as they are shown: as lines, and as a document.
use Rattle.std.specs.Prelude.{ℕ, ◌++◌, codes, decimal, length, List, [], ◌∷◌, map, Some}
use Rattle.std.specs.List.{flat_map}
use Rattle.pylock_json.specs.Json.{Row, list_of, maybe, object_of, there}
use Rattle.pylock_run.specs.Text.Field.{field, line_of}
use Rattle.pylock_check.specs.declared.difference.Difference.{Difference}
use Rattle.pylock_check.specs.declared.difference.DifferenceKind.{DifferenceKind}
use Rattle.pylock_check.specs.declared.difference.DifferenceKind.TheVariants as difference

abbrev pub kind_word : DifferenceKind → List ℕ
kind_word difference.Missing = codes "missing"
kind_word difference.Version = codes "version"
kind_word difference.Python = codes "python"
kind_word difference.Extra = codes "extra"
kind_word difference.Group = codes "group"
kind_word difference.Unknown = codes "unknown"

-- ---- lines

-- word, place, name, detail
abbrev pub difference_line : Difference → List ℕ
difference_line found =
    line_of (kind_word found.kind)
    (field (Some found.place) ∷ field found.name ∷ field found.detail ∷ [])

-- `differences K` and K lines
abbrev pub differences_text : List Difference → List ℕ
differences_text found =
    codes "differences " ++ decimal (length found) ++ codes "\n" ++ flat_map difference_line found

-- ---- the document

-- a field that is absent has no member
abbrev pub difference_rows : Difference → List Row
difference_rows found =
    (codes "difference", there (kind_word found.kind))
    ∷ (codes "where", there found.place)
    ∷ (codes "name", maybe found.name)
    ∷ (codes "detail", maybe found.detail)
    ∷ []

-- the differences in order
abbrev pub differences_rows : List Difference → List Row
differences_rows found =
    (codes "differences", Some (list_of (map (λ d. object_of (difference_rows d)) found))) ∷ []
