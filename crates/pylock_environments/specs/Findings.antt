-- What is found of a lock in all of its environments.
use Rattle.std.specs.Prelude.{◌≡◌, ℕ, ◌+◌, ◌*◌, ◌<◌, List, Some, slice_get}
use Rattle.std.specs.List.{All}
use Rattle.pylock_readers.specs.Entry.{EntryValue}
use Rattle.pylock_readers.specs.Lock.{HeadValue}
use Rattle.pylock_environments.specs.Environments.{IsNarrower, IsNowhere, IsOf, IsSomewhere, Stands}
use Rattle.pylock_environments.specs.Environments.{StandTogether}
use Rattle.pylock_environments.specs.declared.finding.EnvironmentFinding.{EnvironmentFinding}
use Rattle.pylock_environments.specs.declared.finding.Found.{Found}
use Rattle.pylock_environments.specs.declared.finding.Found.TheVariants.{Clash, MayClash, Never}
use Rattle.pylock_environments.specs.declared.finding.Found.TheVariants.{MayNever}
use Rattle.pylock_environments.specs.declared.finding.Found.TheVariants.{NarrowerPython}
use Rattle.pylock_environments.specs.declared.finding.Found.TheVariants.{MayBeNarrower}

-- ---- entries and their numbers

-- the entry has this number, counted from 1
abbrev pub IsEntry : List EntryValue → ℕ → EntryValue → Type 0
IsEntry entries number entry = (k : ℕ) × (number ≡ k + 1) × (slice_get entries k ≡ Some entry)

-- the earlier entry, of the number `other`, comes before the entry of this number, and has its name
pub record IsEarlier (entries : List EntryValue) (other number : ℕ) (earlier entry : EntryValue)
    : Type 0 where
  pub stands : IsEntry entries other earlier
  pub before : other < number
  pub named : earlier.name ≡ entry.name

-- ---- the table of findings: an entry has at most one of each row

pub data Row : Type 0 where
  -- that it stands beside an earlier entry of its name
  Clashes : Row
  -- that it stands nowhere
  Standings : Row
  -- that its `requires-python` is narrower
  Pythons : Row

-- the row of a finding
abbrev pub row_of : Found → Row
row_of (Clash other environment) = Clashes
row_of (MayClash other) = Clashes
row_of Never = Standings
row_of MayNever = Standings
row_of (NarrowerPython environment) = Pythons
row_of MayBeNarrower = Pythons

-- the number of a row
abbrev pub row_number : Row → ℕ
row_number Clashes = 0
row_number Standings = 1
row_number Pythons = 2

-- the place of a row of the entry of a number: entries come in their order, and their rows in that
-- of the table
abbrev pub place : ℕ → Row → ℕ
place number row = 3 * number + row_number row

-- the place of a finding
abbrev pub place_of : EnvironmentFinding → ℕ
place_of finding = place finding.entry (row_of finding.found)

-- ---- what the findings say

-- what a finding says of the entry of this number
abbrev pub IsSo : HeadValue → List EntryValue → ℕ → EntryValue → Found → Type 0
IsSo head entries number entry (Clash other environment) =
    (earlier : EntryValue) × IsEarlier entries other number earlier entry
    × IsOf head environment × StandTogether earlier entry environment
IsSo head entries number entry (MayClash other) =
    (earlier : EntryValue) × IsEarlier entries other number earlier entry
IsSo head entries number entry Never = IsNowhere head (Stands entry)
IsSo head entries number entry MayNever = Unit {0}
IsSo head entries number entry (NarrowerPython environment) =
    IsOf head environment × IsNarrower entry environment
IsSo head entries number entry MayBeNarrower = Unit {0}

-- a finding has the number of an entry, and is so of it
abbrev pub IsShown : HeadValue → List EntryValue → EnvironmentFinding → Type 0
IsShown head entries finding =
    (entry : EntryValue) × IsEntry entries finding.entry entry
    × IsSo head entries finding.entry entry finding.found

-- what is so of the entry of this number where nothing is found of the row: it stands together with
-- no earlier entry of its name; it stands somewhere; nowhere is its `requires-python` narrower
abbrev pub IsClear : HeadValue → List EntryValue → ℕ → EntryValue → Row → Type 0
IsClear head entries number entry Clashes =
    (other : ℕ) (earlier : EntryValue) → IsEarlier entries other number earlier entry
    → IsNowhere head (StandTogether earlier entry)
IsClear head entries number entry Standings = IsSomewhere head (Stands entry)
IsClear head entries number entry Pythons = IsNowhere head (IsNarrower entry)

-- nothing is found of this row of the entry of this number
abbrev pub FindNothing : List EnvironmentFinding → ℕ → Row → Type 0
FindNothing findings number row =
    All (λ finding. finding.entry ≡ number → row_of finding.found ≡ row → ⊥) findings

-- what the findings leave out is clear
abbrev pub AreWhole : HeadValue → List EntryValue → List EnvironmentFinding → Type 0
AreWhole head entries findings =
    (number : ℕ) (entry : EntryValue) (row : Row) → IsEntry entries number entry
    → FindNothing findings number row → IsClear head entries number entry row
