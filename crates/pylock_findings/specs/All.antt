-- All that is found in a lock: in the lock alone, and by what is asked besides.
use Rattle.std.specs.Prelude.{◌≡◌, ℕ, Bool, true, false, List, [], ◌∷◌}
use Rattle.pylock_advisories.specs.Advisory.{AdvisoryValue}
use Rattle.pylock_audit.specs.Finding.{LockFindingValue}
use Rattle.pylock_findings.specs.Environments.{AreEnvironmentLines}
use Rattle.pylock_findings.specs.Host.{host_lines}
use Rattle.pylock_findings.specs.Merging.{merged}
use Rattle.pylock_findings.specs.Vulnerable.{vulnerable_lines}
use Rattle.pylock_readers.specs.Entry.{EntryValue}
use Rattle.pylock_readers.specs.Lock.{LockValue}

-- what is found in every environment that the lock is for, where that is asked
abbrev pub AreOthers : Bool → LockValue → List LockFindingValue → Type 0
AreOthers true lock others = AreEnvironmentLines lock others
AreOthers false lock others = others ≡ []

-- what is found by advisories, where there are any
abbrev pub lines_of_advisories : List AdvisoryValue → List EntryValue → List LockFindingValue
lines_of_advisories [] entries = []
lines_of_advisories (advisory ∷ others) entries = vulnerable_lines (advisory ∷ others) entries

-- what is found by hosts, where any are asked for
abbrev pub lines_of_hosts : List (List ℕ) → List EntryValue → List LockFindingValue
lines_of_hosts [] entries = []
lines_of_hosts (host ∷ others) entries = host_lines (host ∷ others) entries

-- all of them in one list
abbrev pub all_found : List LockFindingValue → List LockFindingValue → List AdvisoryValue
    → List (List ℕ) → List EntryValue → List LockFindingValue
all_found found others advisories hosts entries =
    merged
    (merged (merged found others) (lines_of_advisories advisories entries))
    (lines_of_hosts hosts entries)

-- they are all that is found, with such others
pub record AreAll (environments : Bool) (advisories : List AdvisoryValue) (hosts : List (List ℕ))
    (lock : LockValue) (found all : List LockFindingValue) : Type 0 where
  pub others : List LockFindingValue
  pub are_others : AreOthers environments lock others
  pub is : all ≡ all_found found others advisories hosts lock.entries
