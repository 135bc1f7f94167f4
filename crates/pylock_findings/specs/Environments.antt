-- What is found of a lock in every environment that it is for, as findings of an audit.
use Rattle.std.specs.Prelude.{◌≡◌, ◌-◌, List, [], ◌∷◌, map, option_map, slice_get}
use Rattle.std.specs.List.{All}
use Rattle.pylock_readers.specs.Entry.{EntryValue}
use Rattle.pylock_readers.specs.Lock.{LockValue}
use Rattle.pylock_core.specs.Session.State.{Rises}
use Rattle.pylock_audit.specs.Finding.{LockFindingValue}
use Rattle.pylock_audit.specs.declared.finding.FindingKind.{FindingKind}
use Rattle.pylock_audit.specs.declared.finding.FindingKind.TheVariants as kind
use Rattle.pylock_environments.specs.Detail.{IsDetail}
use Rattle.pylock_environments.specs.Findings.{AreWhole, IsShown, place_of}
use Rattle.pylock_environments.specs.declared.finding.EnvironmentFinding.{EnvironmentFinding}
use Rattle.pylock_environments.specs.declared.finding.Found.{Found}
use Rattle.pylock_environments.specs.declared.finding.Found.TheVariants as found

-- the kind that tells what is found
abbrev pub kind_of : Found → FindingKind
kind_of (found.Clash other environment) = kind.Clash
kind_of (found.MayClash other) = kind.MayClash
kind_of found.Never = kind.Never
kind_of found.MayNever = kind.MayNever
kind_of (found.NarrowerPython environment) = kind.NarrowerPython
kind_of found.MayBeNarrower = kind.MayBeNarrower

-- the line of a finding: the number of its entry, counted from 1, and that one's name, what is
-- found, and the detail of that
pub record IsLine (entries : List EntryValue) (finding : EnvironmentFinding)
    (line : LockFindingValue) : Type 0 where
  pub number : line.number ≡ finding.entry
  pub name : line.name ≡ option_map (λ entry. entry.name) (slice_get entries (finding.entry - 1))
  pub kind : line.finding.kind ≡ kind_of finding.found
  pub detail : IsDetail finding.found line.finding.detail

-- a line for each finding, in order
abbrev pub AreLines : List EntryValue → List EnvironmentFinding → List LockFindingValue → Type 0
AreLines entries [] [] = Unit {0}
AreLines entries (finding ∷ findings) (line ∷ lines) =
    IsLine entries finding line × AreLines entries findings lines
AreLines entries _ _ = ⊥

-- There are findings of which these are the lines: each is shown, what they leave out is clear, and
-- they stand in the order of the entries, at most three of each.
pub record AreEnvironmentLines (lock : LockValue) (lines : List LockFindingValue) : Type 0 where
  pub findings : List EnvironmentFinding
  pub shown : All (IsShown lock.head lock.entries) findings
  pub whole : AreWhole lock.head lock.entries findings
  pub order : Rises 0 (map place_of findings)
  pub told : AreLines lock.entries findings lines
