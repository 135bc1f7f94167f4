-- What an edit has found of how entries of a number stand.
use Rattle.std.specs.Prelude.{◌≡◌, ℕ, List, Option, Some, None, slice_index_or}
use Rattle.pymark_core.specs.Environment.{EnvironmentValue}
use Rattle.pylock_readers.specs.Entry.{EntryValue}
use Rattle.pylock_core.specs.Inner.Judging.Judgement.{standing_of}
use Rattle.pylock_core.specs.declared.answer.Standing.{Standing}
use Rattle.pylock_core.specs.declared.session.judging.standings.FoundStanding.{FoundStanding}
use Rattle.pylock_core.specs.declared.session.tables.rows.Row.{Row}

-- the number of the condition of a row
abbrev pub number_in : Option Row → Option ℕ
number_in None = None
number_in (Some row) = row.condition

-- it was found that entries of this number stand so
abbrev pub IsFound : List (Option FoundStanding) → ℕ → Standing → Type 0
IsFound found number standing =
    (place : ℕ)
    × (slice_index_or found place None ≡ Some (record { number = number; standing = standing }))

-- what was found of a number is how each entry of that number stands
abbrev pub AreFound : List (Option EntryValue) → List (Option Row) → EnvironmentValue
    → List (Option FoundStanding) → Type 0
AreFound entries rows environment found =
    (number : ℕ) (standing : Standing) (place : ℕ)
    → IsFound found number standing
    → number_in (slice_index_or rows place None) ≡ Some number
    → standing ≡ standing_of environment (slice_index_or entries place None)
