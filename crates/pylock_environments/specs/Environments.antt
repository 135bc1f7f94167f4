-- The environments that a lock is for (PEP 751, `requires-python` and `environments`), and how its
-- entries stand there.
use Rattle.std.specs.Prelude.{◌≡◌, Option, Some, None}
use Rattle.pymark_core.specs.Environment.{EnvironmentValue}
use Rattle.pymark_core.specs.Marker.Reading.{MarkerValue}
use Rattle.pymark_algebra.specs.Coherent.{IsCoherent}
use Rattle.pylock_readers.specs.Entry.{EntryValue}
use Rattle.pylock_readers.specs.Lock.{HeadValue}
use Rattle.pylock_core.specs.Session.Steps.{head_fault, marked_standing, python_check, standing}
use Rattle.pylock_core.specs.declared.answer.FaultCode.TheVariants.{PythonNotMet}
use Rattle.pylock_core.specs.declared.answer.Standing.TheVariants.{Active}

-- The environment is one of the lock's: an interpreter of Python may have it, and the head of the
-- lock admits it.
pub record IsOf (head : HeadValue) (environment : EnvironmentValue) : Type 0 where
  pub coherent : IsCoherent environment
  pub admitted : head_fault head environment ≡ None

-- it is so in no environment of the lock
abbrev pub IsNowhere : HeadValue → (EnvironmentValue → Type 0) → Type 0
IsNowhere head this =
    (environment : EnvironmentValue) → IsOf head environment → this environment → ⊥

-- it is so in one
abbrev pub IsSomewhere : HeadValue → (EnvironmentValue → Type 0) → Type 0
IsSomewhere head this = (environment : EnvironmentValue) × IsOf head environment × this environment

-- the marker is absent or true
abbrev pub IsMarked : Option MarkerValue → EnvironmentValue → Type 0
IsMarked marker environment = marked_standing marker environment Active ≡ Active

-- the entry stands: its marker is absent or true, and its Python check has no fault
abbrev pub Stands : EntryValue → EnvironmentValue → Type 0
Stands entry environment = standing entry environment ≡ Active

-- both entries stand
abbrev pub StandTogether : EntryValue → EntryValue → EnvironmentValue → Type 0
StandTogether first second environment = Stands first environment × Stands second environment

-- the marker of the entry is absent or true, and its `requires-python` doesn't admit the Python
pub record IsNarrower (entry : EntryValue) (environment : EnvironmentValue) : Type 0 where
  pub marked : IsMarked entry.marker environment
  pub unmet : python_check entry.requires_python environment ≡ Some PythonNotMet
