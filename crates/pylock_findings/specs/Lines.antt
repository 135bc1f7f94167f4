-- What is found of each entry of a lock by itself.
use Rattle.std.specs.Prelude.{ℕ, ◌+◌, ◌++◌, List, [], ◌∷◌, Some}
use Rattle.pylock_readers.specs.Entry.{EntryValue}
use Rattle.pylock_audit.specs.Finding.{LockFindingValue, findings_at, findings_each}
use Rattle.pylock_audit.specs.declared.finding.FindingKind.{FindingKind}

-- a finding of this kind for each detail that an entry gives; the first entry has this number
abbrev pub lines_from : FindingKind → (EntryValue → List (List ℕ)) → ℕ → List EntryValue
    → List LockFindingValue
lines_from kind details number [] = []
lines_from kind details number (entry ∷ entries) =
    findings_at number (Some entry.name) (findings_each kind (details entry))
    ++ lines_from kind details (number + 1) entries
