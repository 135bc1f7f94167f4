-- What a careful reader of a lock would want to be told: a kind of finding, and what it names.
use Rattle.std.specs.Prelude.{ℕ, Bool, List, [], ◌∷◌, map, Option, Some, if◌then◌else◌}
use Rattle.pylock_shown.specs.Hidden.{hidden}
use Rattle.pylock_audit.specs.declared.finding.FindingKind.{FindingKind}

pub record FindingValue : Type 0 where
  pub kind : FindingKind
  pub detail : Option (List ℕ)

abbrev pub finding_of : FindingKind → Option (List ℕ) → FindingValue
finding_of kind detail = record { kind = kind; detail = detail }

-- a text where it counts
abbrev pub told_where : Bool → List ℕ → List (List ℕ)
told_where counts text = if counts then text ∷ [] else []

-- a text of the lock as it is shown, where it counts
abbrev pub shown_where : Bool → List ℕ → List (List ℕ)
shown_where counts text = told_where counts (hidden text)

-- one finding where it stands, and one for each of these
abbrev pub finding_where : Bool → FindingKind → Option (List ℕ) → List FindingValue
finding_where stands kind detail = if stands then finding_of kind detail ∷ [] else []

abbrev pub findings_each : FindingKind → List (List ℕ) → List FindingValue
findings_each kind details = map (λ detail. finding_of kind (Some detail)) details

-- a finding of the head, which has the number 0 and no name, or of an entry
pub record LockFindingValue : Type 0 where
  pub number : ℕ
  pub name : Option (List ℕ)
  pub finding : FindingValue

abbrev pub findings_at : ℕ → Option (List ℕ) → List FindingValue → List LockFindingValue
findings_at number name findings =
    map (λ finding. record { number = number; name = name; finding = finding }) findings
