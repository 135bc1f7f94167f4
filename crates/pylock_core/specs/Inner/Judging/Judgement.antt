-- What an edit judges again.
use Rattle.std.specs.Prelude.{ℕ, ◌-◌, ◌<◌, ◌==◌, Bool, false, List, ◌∷◌, map, length, Option, Some}
use Rattle.std.specs.Prelude.{None, IsSome, slice_index_or, [], if◌then◌else◌}
use Rattle.pymark_core.specs.Environment.{EnvironmentValue}
use Rattle.pywheel_core.specs.Tag.{TagValue}
use Rattle.pylock_readers.specs.Entry.{EntryValue}
use Rattle.pylock_core.specs.Session.State.{in_rows}
use Rattle.pylock_core.specs.Session.Judgement.{numbers_where, verdict_of}
use Rattle.pylock_core.specs.Session.Steps.{standing}
use Rattle.pylock_core.specs.declared.answer.Standing.{Standing}
use Rattle.pylock_core.specs.declared.answer.Standing.TheVariants.{Active}
use Rattle.pylock_core.specs.declared.edit.Policy.{Policy}
use Rattle.pylock_core.specs.declared.session.parts.Parts.{Parts}
use Rattle.pylock_core.specs.declared.session.tables.rows.Row.{Row}

-- ---- the rows

-- the row of an entry that is judged again
abbrev pub row_anew : EnvironmentValue → List TagValue → (ℕ → Policy) → Option EntryValue
    → Option Row → Option Row
row_anew environment tags policy None row = None
row_anew environment tags policy (Some entry) None = None
row_anew environment tags policy (Some entry) (Some row) =
    Some (record row { verdict = verdict_of entry environment tags (policy row.name) })

-- the row of this number judged again, with its place
abbrev pub fresh_row : EnvironmentValue → List TagValue → (ℕ → Policy) → List (Option EntryValue)
    → List (Option Row) → ℕ → ℕ × Option Row
fresh_row environment tags policy entries rows n = (
  n - 1,
  row_anew environment tags policy (slice_index_or entries (n - 1) None)
      (slice_index_or rows (n - 1) None),
)

-- the rows of the entries that pass, judged again
abbrev pub rows_anew : Parts → (EntryValue → Bool) → EnvironmentValue → List TagValue → (ℕ → Policy)
    → List (ℕ × Option Row)
rows_anew parts test environment tags policy =
    map (fresh_row environment tags policy parts.entries.items parts.rows.items)
    (numbers_where test (in_rows 1 parts.entries.items))

-- how the entry at a place stands; where there is none it makes no difference
abbrev pub standing_of : EnvironmentValue → Option EntryValue → Standing
standing_of environment None = Active
standing_of environment (Some entry) = standing entry environment

-- how the entry of this number stands, with its place
abbrev pub fresh_standing : EnvironmentValue → List (Option EntryValue) → ℕ → ℕ × Standing
fresh_standing environment entries n =
    (n - 1, standing_of environment (slice_index_or entries (n - 1) None))

-- how the entries that pass stand
abbrev pub standings_anew : Parts → (EntryValue → Bool) → EnvironmentValue → List (ℕ × Standing)
standings_anew parts test environment =
    map (fresh_standing environment parts.entries.items)
    (numbers_where test (in_rows 1 parts.entries.items))

-- ---- places

-- each is the number of an entry
abbrev pub AllStand : List (Option EntryValue) → List ℕ → Type 0
AllStand entries numbers =
    (i : ℕ) → i < length numbers
    → (0 < slice_index_or numbers i 0)
    × IsSome (slice_index_or entries (slice_index_or numbers i 0 - 1) None)

-- ---- the head

-- whether the number of the head is the first
abbrev pub has_head : List ℕ → Bool
has_head [] = false
has_head (n ∷ numbers) = n == 0

-- the numbers after that of the head
abbrev pub after_head : List ℕ → List ℕ
after_head [] = []
after_head (n ∷ numbers) = if n == 0 then numbers else n ∷ numbers
