-- The conditions that entries share, by their numbers, and how entries stand by them.
use Rattle.std.specs.Prelude.{◌≡◌, ℕ, List, Option, Some, None, slice_get, slice_index_or}
use Rattle.pyver_core.specs.declared.set.specifier.Specifier.{Specifier}
use Rattle.pymark_core.specs.Environment.{EnvironmentValue}
use Rattle.pymark_core.specs.Marker.Reading.{MarkerValue}
use Rattle.pylock_readers.specs.Entry.{EntryValue}
use Rattle.pylock_core.specs.Session.Steps.{by_check, marked_standing, python_check}
use Rattle.pylock_core.specs.declared.answer.Standing.{Standing}
use Rattle.pylock_core.specs.declared.session.tables.rows.Row.{Row}

-- a marker and a Python set, where an entry has them
pub record Condition : Type 0 where
  pub marker : Option MarkerValue
  pub python : Option (List Specifier)

abbrev pub condition_of : EntryValue → Condition
condition_of entry = record { marker = entry.marker; python = entry.requires_python }

-- how an entry stands that has the condition
abbrev pub condition_standing : EnvironmentValue → Condition → Standing
condition_standing environment condition =
    marked_standing condition.marker environment
    (by_check (python_check condition.python environment))

-- where the entry has a number, it has the condition of that number
abbrev pub HasNumber : List Condition → EntryValue → Option ℕ → Type 0
HasNumber known entry None = Unit {0}
HasNumber known entry (Some n) = slice_get known n ≡ Some (condition_of entry)

abbrev pub IsUnder : List Condition → EntryValue → Row → Type 0
IsUnder known entry row = HasNumber known entry row.condition

-- the number is that of an entry that stands and has the same condition
abbrev pub IsShared : List (Option EntryValue) → List (Option Row) → EntryValue → ℕ → Type 0
IsShared entries rows entry n =
    (place : ℕ) × (other : EntryValue) × (row : Row)
    × (slice_index_or entries place None ≡ Some other)
    × (slice_index_or rows place None ≡ Some row)
    × (row.condition ≡ Some n)
    × (condition_of other ≡ condition_of entry)
