-- An environment that has what a plan says, and what steps leave in one.
use Rattle.std.specs.Prelude.{◌≡◌, ◌⊎◌, ℕ, Bool, true, false, List, [], ◌∷◌, IfSome, Some}
use Rattle.std.specs.List.{AllByRecursion, IsDistinct, flat_map}
use Rattle.std.specs.Option.{option_map_or}
use Rattle.std.specs.Str.{bytes_eq}
use Rattle.pylock_core.specs.Session.State.{State, entry_at}
use Rattle.pylock_core.specs.declared.answer.Pick.{Pick}
use Rattle.pylock_installed.specs.Picked.{is_picked}
use Rattle.pylock_installed.specs.Project.{ProjectValue, is_named, project_named}
use Rattle.pylock_installed.specs.Steps.{StepValue, Install, Replace, Keep, Remove}
use Rattle.pylock_installed.specs.Steps.{is_planned, is_tool}

-- ---- having what a plan says

-- the project of the name of the pick's entry is what is picked
abbrev pub IsInstalled : State → List ProjectValue → Pick → Type 0
IsInstalled state installed pick =
    IfSome (entry_at pick.id state.entries) (λ entry. (project : ProjectValue)
    × (project_named entry.name installed ≡ Some project)
    × (is_picked entry pick.source project ≡ true))

-- the project has the name of an entry of the plan, or it is one of the tools that may stay
abbrev pub MayStay : State → List Pick → (is_exact : Bool) → ProjectValue → Type 0
MayStay state picks is_exact project =
    (is_planned state picks project ≡ true) ⊎ ((is_exact ≡ false) × (is_tool project ≡ true))

-- each pick is installed, and nothing else but what may stay
abbrev pub HasPlan : State → List Pick → List ProjectValue → (is_exact : Bool) → Type 0
HasPlan state picks installed is_exact =
    AllByRecursion (IsInstalled state installed) picks
    × AllByRecursion (MayStay state picks is_exact) installed

-- ---- what steps leave

-- what an installer makes of the pick's entry is what is picked of it
abbrev pub IsMade : State → (ℕ → ProjectValue) → Pick → Type 0
IsMade state made pick =
    IfSome (entry_at pick.id state.entries) (λ entry.
    (is_named entry.name (made pick.id) ≡ true)
    × (is_picked entry pick.source (made pick.id) ≡ true))

-- the project that is there after a step, where an installer makes these of the entries
abbrev pub left_by : (made : ℕ → ProjectValue) → StepValue → List ProjectValue
left_by made (Install number) = made number ∷ []
left_by made (Replace number project) = made number ∷ []
left_by made (Keep project) = project ∷ []
left_by made (Remove project) = []

abbrev pub after_steps : (made : ℕ → ProjectValue) → List StepValue → List ProjectValue
after_steps made steps = flat_map (left_by made) steps

-- the names of the entries of a plan
abbrev pub pick_names : State → Pick → List (List ℕ)
pick_names state pick =
    option_map_or (λ entry. entry.name ∷ []) (entry_at pick.id state.entries) []

-- no two entries of a plan have one name, as step 5 of the installation steps (PEP 751) demands
abbrev pub HasOneOfEach : State → List Pick → Type 0
HasOneOfEach state picks = IsDistinct bytes_eq (flat_map (pick_names state) picks)
