-- What `audit` prints: a line for each finding.
use Rattle.std.specs.Prelude.{ℕ, ◌++◌, List, [], ◌∷◌, codes, decimal, if◌then◌else◌, length}
use Rattle.std.specs.Prelude.{nat_lt}
use Rattle.std.specs.List.{flat_map}
use Rattle.pylock_audit.specs.Finding.{LockFindingValue}
use Rattle.pylock_audit.specs.Words.{finding_word}
use Rattle.pylock_json.specs.Json.{Row, numbered}
use Rattle.pylock_run.specs.Text.Field.{field, line_of}
use Rattle.pylock_program.specs.Text.Safe.{safe_field}

-- number, name, finding, detail
abbrev pub finding_line : LockFindingValue → List ℕ
finding_line found =
    line_of (decimal found.number)
    (field found.name ∷ finding_word found.finding.kind ∷ safe_field found.finding.detail ∷ [])

-- `findings K` and K lines
abbrev pub findings_text : List LockFindingValue → List ℕ
findings_text found =
    codes "findings " ++ decimal (length found) ++ codes "\n" ++ flat_map finding_line found

-- how many are ignored, where any are
abbrev pub ignored_text : ℕ → List ℕ
ignored_text count = if nat_lt 0 count then codes " ignored " ++ decimal count else []

abbrev pub ignored_rows : ℕ → List Row
ignored_rows count = if nat_lt 0 count then (codes "ignored", numbered count) ∷ [] else []

-- the findings that count, beside how many are ignored
abbrev pub audit_text : ℕ → List LockFindingValue → List ℕ
audit_text ignored found = (codes "findings " ++ decimal (length found) ++ ignored_text ignored
    ++ codes "\n") ++ flat_map finding_line found
