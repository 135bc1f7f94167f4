-- What becomes of each entry, judged for itself, and of the head: all faults at once, and not the
-- first alone.
use Rattle.std.specs.Prelude.{ℕ, ◌==◌, ◌&&◌, Bool, true, false, List, [], ◌∷◌, map, Option, Some}
use Rattle.std.specs.Prelude.{None, option_map, Result, Ok, Err, if◌then◌else◌}
use Rattle.std.specs.Option.{option_map_or}
use Rattle.std.specs.Str.{bytes_eq}
use Rattle.pytext.specs.Options.{either}
use Rattle.pymark_core.specs.Environment.{EnvironmentValue}
use Rattle.pylock_readers.specs.Entry.{EntryValue}
use Rattle.pylock_core.specs.Session.State.{State, entry_at, policy_of}
use Rattle.pylock_core.specs.Session.Steps.{FirstFault, answer_after, answer_by, by_standing}
use Rattle.pylock_core.specs.Session.Steps.{head_fault, pick_before, source_of, standing}
use Rattle.pylock_readers.specs.Entry.Kinds.{has_conflict}
use Rattle.pylock_core.specs.declared.answer.Answer.{Answer}
use Rattle.pylock_core.specs.declared.answer.FaultCode.{FaultCode}
use Rattle.pylock_core.specs.declared.answer.FaultCode.TheVariants as code
use Rattle.pylock_core.specs.declared.answer.Pick.{Pick}
use Rattle.pylock_core.specs.declared.answer.PickSource.{PickSource}
use Rattle.pylock_core.specs.declared.answer.Standing.{Standing}
use Rattle.pylock_core.specs.declared.edit.Policy.{Policy}
use Rattle.pylock_core.specs.declared.fate.Fate.{Fate}
use Rattle.pylock_core.specs.declared.fate.Fate.TheVariants.{Skipped, Faulty, Ambiguous, Sources}
use Rattle.pylock_core.specs.declared.fate.Fate.TheVariants.{NoFile, Picked}

-- whether an entry that stands so is to be installed by its own
abbrev pub stands_active : Standing → Bool
stands_active standing = by_standing standing false (λ code. false) true

-- the number of the first active entry of the name
abbrev pub first_active : List (ℕ × EntryValue) → EnvironmentValue → List ℕ → Option ℕ
first_active [] environment name = None
first_active (e ∷ es) environment name =
    if stands_active (standing e.1 environment) && bytes_eq name e.1.name then Some e.0
    else first_active es environment name

-- an entry that step 6 gives this source, or none under the policy of its name
abbrev pub picked : Policy → Option PickSource → Fate
picked policy None = NoFile policy
picked policy (Some source) = Picked source

-- what becomes of an active entry that shares its name with no earlier one
abbrev pub own_fate : Bool → Policy → Option PickSource → Fate
own_fate conflict policy source = if conflict then Sources else picked policy source

-- what becomes of an active entry: the first active one of its name has its number, or is an
-- earlier one
abbrev pub active_fate : ℕ → Option ℕ → Fate → Fate
active_fate number first own =
    option_map_or (λ n. if n == number then own else Ambiguous n) first own

-- what becomes of an entry that stands so
abbrev pub fate_by : Standing → ℕ → Option ℕ → Fate → Fate
fate_by standing number first own =
    by_standing standing Skipped Faulty (active_fate number first own)

abbrev pub fate : State → ℕ × EntryValue → Fate
fate state e =
    let policy = policy_of state.policies e.1.name in
    fate_by (standing e.1 state.environment) e.0
    (first_active state.entries state.environment e.1.name)
    (own_fate (has_conflict e.1) policy (source_of e.1 state.tags policy))

-- what becomes of each entry, with its number
abbrev pub fates : State → List (ℕ × Fate)
fates state = map (λ e. (e.0, fate state e)) state.entries

-- what becomes of the entry of the number
abbrev pub fate_at : ℕ → State → Option Fate
fate_at n state = option_map (λ entry. fate state (n, entry)) (entry_at n state.entries)

-- ---- the answer that they give

-- the fault of step 5 that an entry has
abbrev pub slating_fault : Fate → Option FaultCode
slating_fault (Faulty code) = Some code
slating_fault (Ambiguous n) = Some code.Ambiguous
slating_fault Sources = Some code.Sources
slating_fault _ = None

abbrev pub first_slating_fault : List (ℕ × Fate) → Option FirstFault
first_slating_fault [] = None
first_slating_fault (f ∷ fs) =
    either (option_map (λ code. (f.0, code)) (slating_fault f.1)) (first_slating_fault fs)

-- the picks of all that are picked, or the first entry without a file
abbrev pub fate_picks : List (ℕ × Fate) → Result (List Pick) FirstFault
fate_picks [] = Ok []
fate_picks ((n, Picked source) ∷ fs) = pick_before n (Some source) (fate_picks fs)
fate_picks ((n, NoFile policy) ∷ fs) = pick_before n None (fate_picks fs)
fate_picks (f ∷ fs) = fate_picks fs

-- the first fault of step 5, or else what step 6 gives
abbrev pub fates_answer : List (ℕ × Fate) → Answer
fates_answer fs =
    answer_by (option_map_or (λ fault. Err fault) (first_slating_fault fs) (fate_picks fs))

-- the head's fault comes before all
abbrev pub explained_answer : State → Answer
explained_answer state =
    answer_after (head_fault state.head state.environment) (fates_answer (fates state))
