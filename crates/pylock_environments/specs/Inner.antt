-- What serves contracts inside the crate alone.
use Rattle.std.specs.Prelude.{◌≡◌, ℕ, ◌<◌, ◌==◌, ◌&&◌, ◌||◌, not, Bool, false, List, [], ◌∷◌, ◌++◌}
use Rattle.std.specs.Prelude.{length, slice_index, map, take, Option, Some, None}
use Rattle.std.specs.Borrow.{Bor}
use Rattle.std.specs.BTreeMap.{BTreeMap, get_by}
use Rattle.std.specs.Cmp.Lexicographic.{slice_cmp}
use Rattle.std.specs.Global.{Global}
use Rattle.std.specs.List.{All, Contains, enumerate_from, filter}
use Rattle.std.specs.Option.{option_map_or}
use Rattle.std.specs.Ordering.{nat_cmp}
use Rattle.std.specs.Str.{bytes_eq}
use Rattle.std.specs.declared.vec.Vec.{Vec}
use Rattle.pytext.specs.Digits.{is_number}
use Rattle.pyver_core.specs.declared.set.specifier.Specifier.{Specifier}
use Rattle.pymark_core.specs.Environment.{EnvironmentValue}
use Rattle.pymark_algebra.specs.Questions.{AllHave, AllSay, PythonSays}
use Rattle.pymark_algebra.specs.declared.answer.Answer.{Answer}
use Rattle.pymark_algebra.specs.declared.answer.Answer.TheVariants.{Yes, No, Undecided}
use Rattle.pylock_readers.specs.Entry.{EntryValue}
use Rattle.pylock_readers.specs.Lock.{HeadValue}
use Rattle.pylock_core.specs.Session.State.{Rises}
use Rattle.pylock_environments.specs.Environments.{IsMarked, IsNarrower, IsNowhere, IsOf, Stands}
use Rattle.pylock_environments.specs.Environments.{StandTogether}
use Rattle.pylock_environments.specs.Findings.{IsClear, IsEntry, FindNothing, IsShown, IsSo}
use Rattle.pylock_environments.specs.Findings.{Row, place, place_of, row_of}
use Rattle.pylock_environments.specs.declared.finding.EnvironmentFinding.{EnvironmentFinding}
use Rattle.pylock_environments.specs.declared.finding.Found.{Found}
use Rattle.pylock_environments.specs.declared.finding.Found.TheVariants.{Clash, MayClash, Never}
use Rattle.pylock_environments.specs.declared.finding.Found.TheVariants.{MayNever}
use Rattle.pylock_environments.specs.declared.lock.WeighedEntry.{WeighedEntry}
use Rattle.pylock_environments.specs.declared.sought.Sought.{Sought}
use Rattle.pylock_environments.specs.declared.sought.Sought.TheVariants.{Standing, Together}
use Rattle.pylock_environments.specs.declared.sought.Sought.TheVariants.{Refused}
use Rattle.pylock_environments.specs.declared.wanted.Wanted.{Wanted}

-- ---- questions

-- the specifiers and the markers say all that is wanted of them
abbrev pub AreWanted : EnvironmentValue → Wanted → Type 0
AreWanted environment wanted =
    AllSay environment wanted.pythons.items × AllHave environment wanted.markers.items

-- the marker of the entry is absent or true, and the specifier doesn't admit the Python
abbrev pub IsRefused : EntryValue → Specifier → EnvironmentValue → Type 0
IsRefused entry specifier environment =
    IsMarked entry.marker environment × PythonSays environment specifier false

-- what is sought is so in the environment
abbrev pub IsSoughtIn : EnvironmentValue → Sought → Type 0
IsSoughtIn environment (Standing weighed) = Stands weighed.now.entry.now environment
IsSoughtIn environment (Together first second) =
    StandTogether first.now.entry.now second.now.entry.now environment
IsSoughtIn environment (Refused weighed specifier) =
    IsRefused weighed.now.entry.now specifier.now environment

-- what an environment that is found shows: of an entry that a specifier refuses, that it is
-- narrower
abbrev pub IsShownBy : EnvironmentValue → Sought → Type 0
IsShownBy environment (Standing weighed) = Stands weighed.now.entry.now environment
IsShownBy environment (Together first second) =
    StandTogether first.now.entry.now second.now.entry.now environment
IsShownBy environment (Refused weighed specifier) =
    IsNarrower weighed.now.entry.now environment

-- yes says that this is so in no environment of the lock, no that the environment is of the lock
-- and shows that, and undecided says nothing
abbrev pub Says : HeadValue → (this that : EnvironmentValue → Type 0) → Answer → Type 0
Says head this that Yes = IsNowhere head this
Says head this that (No environment) = IsOf head environment × that environment
Says head this that Undecided = Unit {0}

-- ---- entries by their names

-- an entry with its number, and several
abbrev pub numbered_of : WeighedEntry → ℕ × EntryValue
numbered_of weighed = (weighed.number, weighed.entry.now)

abbrev pub numbered : List WeighedEntry → List (ℕ × EntryValue)
numbered entries = map numbered_of entries

-- the values under a name in a table
abbrev pub values_under : {V : Type 0} → BTreeMap (Bor (List ℕ)) (Vec V Global) → List ℕ → List V
values_under named name =
    option_map_or (λ values. values.items) (get_by (λ key. slice_cmp nat_cmp name key.now) named) []

-- the entries that have the name, of the first i
abbrev pub named_before : List ℕ → ℕ → List EntryValue → List (ℕ × EntryValue)
named_before name i entries =
    filter (λ e. bytes_eq name e.1.name) (enumerate_from 1 (take i entries))

-- ---- what is told of the rows of an entry

-- of its clashes with these others: one, that there may be one, or none where there is none
abbrev pub IsClashTold : HeadValue → List (ℕ × EntryValue) → EntryValue → Option Found → Type 0
IsClashTold head others entry None = All (λ o. IsNowhere head (StandTogether o.1 entry)) others
IsClashTold head others entry (Some (Clash other environment)) =
    (earlier : EntryValue) × Contains others (other, earlier)
    × IsOf head environment × StandTogether earlier entry environment
IsClashTold head others entry (Some (MayClash other)) =
    (earlier : EntryValue) × Contains others (other, earlier)
IsClashTold head others entry (Some _) = ⊥

-- of one row one finding, which is so, or none where it is clear
abbrev pub IsTold : HeadValue → List EntryValue → ℕ → EntryValue → Row → Option Found → Type 0
IsTold head entries number entry row None = IsClear head entries number entry row
IsTold head entries number entry row (Some found) =
    (row_of found ≡ row) × IsSo head entries number entry found

-- the same of a row that knows no other entry
abbrev pub IsToldAlone : HeadValue → EntryValue → Row → Option Found → Type 0
IsToldAlone head entry row told =
    (entries : List EntryValue) (number : ℕ) → IsTold head entries number entry row told

-- what is told of an entry that stands in no environment of the lock, or does
abbrev pub never_by : Answer → Option Found
never_by Yes = Some Never
never_by (No environment) = None
never_by Undecided = Some MayNever

-- findings, and behind them what is told of an entry
abbrev pub with_told : List EnvironmentFinding → ℕ → Option Found → List EnvironmentFinding
with_told findings number None = findings
with_told findings number (Some found) =
    findings ++ record { entry = number; found = found } ∷ []

-- the findings of all rows before a place
pub record AreBefore (head : HeadValue) (entries : List EntryValue) (end : ℕ)
    (findings : List EnvironmentFinding) : Type 0 where
  pub shown : All (IsShown head entries) findings
  pub whole : (number : ℕ) (entry : EntryValue) (row : Row) → place number row < end
      → IsEntry entries number entry → FindNothing findings number row
      → IsClear head entries number entry row
  pub rise : Rises 0 (map place_of findings)
  pub below : All (λ finding. place_of finding < end) findings

-- ---- numbers in a text

-- digits, one or more, without a zero in front of others
abbrev pub is_plain_number : List ℕ → Bool
is_plain_number digits =
    is_number digits && ((length digits == 1) || not (slice_index digits 0 == 48))
