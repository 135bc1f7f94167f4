-- The rows of a session: what belongs to number k stands at place k - 1.
use Rattle.std.specs.Prelude.{Bool, false, Option, Some, None, ◌<◌, ℕ, true, List, ◌∷◌, zero, suc}
use Rattle.std.specs.Prelude.{slice_index_or, slice_set, [], if◌then◌else◌}
use Rattle.pylock_core.specs.declared.answer.PickSource.{PickSource}
use Rattle.pylock_core.specs.declared.answer.PickSource.TheVariants as source
use Rattle.pylock_core.specs.declared.edit.Policy.{Policy}
use Rattle.pylock_core.specs.declared.edit.Policy.TheVariants.{Any, Wheel, Source}
use Rattle.pylock_core.specs.declared.session.tables.rows.SourceKinds.{SourceKinds}
use Rattle.pylock_core.specs.declared.session.tables.rows.Row.{Row}
use Rattle.pylock_core.specs.Session.Steps.{standing}
use Rattle.pylock_core.specs.declared.answer.Standing.{Standing}

-- whether something stands in the row and passes the test
abbrev pub passes : {X : Type 0} → (X → Bool) → Option X → Bool
passes test None = false
passes test (Some x) = test x

-- whether the name of the row is marked
abbrev pub is_marked : List Bool → Row → Bool
is_marked marks row = slice_index_or marks row.name false

-- the best wheel, or an sdist that the policy allows
abbrev pub file_source : Option ℕ → Bool → Policy → Option PickSource
file_source (Some place) sdist policy = Some (source.Wheel place)
file_source None true Any = Some source.Sdist
file_source None true Wheel = None
file_source None true Source = Some source.Sdist
file_source None false policy = None

abbrev pub source_among : SourceKinds → Option ℕ → Policy → Option PickSource
source_among sources best policy =
    if sources.vcs
    then Some source.Vcs
    else if sources.directory
    then Some source.Directory
    else if sources.archive
    then Some source.Archive
    else file_source best sources.sdist policy

abbrev pub row_source : Row → Policy → Option PickSource
row_source row policy = source_among row.sources row.verdict.best policy

-- the row of a number
abbrev pub row_at : List (Option Row) → ℕ → Option Row
row_at rows zero = None
row_at rows (suc place) = slice_index_or rows place None

-- the rows with what each of these makes of the row at its place
abbrev pub with_each : {X : Type 0} → (X → Option Row → Option Row) → List (ℕ × X)
    → List (Option Row) → List (Option Row)
with_each put [] rows = rows
with_each put (fresh ∷ more) rows =
    with_each put more
    (slice_set rows fresh.0 (put fresh.1 (slice_index_or rows fresh.0 None)))

-- the rows with each of these at its place
abbrev pub with_rows : List (ℕ × Option Row) → List (Option Row) → List (Option Row)
with_rows = with_each (λ row old. row)

-- ---- how entries stand

-- the row of an entry that stands so, the rest of it kept
abbrev pub row_stood : Standing → Option Row → Option Row
row_stood standing None = None
row_stood standing (Some row) = Some (record row {
  verdict = record { standing = standing; best = row.verdict.best };
})

-- the rows where the entry at each of these places stands so
abbrev pub with_standings : List (ℕ × Standing) → List (Option Row) → List (Option Row)
with_standings = with_each row_stood

-- each has a place among so many
abbrev pub AllWithin : {X : Type 0} → ℕ → List (ℕ × X) → Type 0
AllWithin count [] = Unit {0}
AllWithin count (fresh ∷ more) = (fresh.0 < count) × AllWithin count more
