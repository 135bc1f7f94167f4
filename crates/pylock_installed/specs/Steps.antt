-- The steps after which an environment has what a plan says.
use Rattle.std.specs.Prelude.{ℕ, Bool, true, false, not, ◌&&◌, ◌++◌, codes, List, [], ◌∷◌, filter}
use Rattle.std.specs.Prelude.{map, Option, Some, None, if◌then◌else◌}
use Rattle.std.specs.List.{flat_map, list_all, list_any}
use Rattle.std.specs.Option.{option_map_or}
use Rattle.std.specs.Str.{bytes_eq}
use Rattle.pylock_readers.specs.Entry.{EntryValue}
use Rattle.pylock_core.specs.Session.State.{State, entry_at}
use Rattle.pylock_core.specs.declared.answer.Pick.{Pick}
use Rattle.pylock_installed.specs.Picked.{is_picked}
use Rattle.pylock_installed.specs.Project.{ProjectValue, is_named, project_named}
use Rattle.pylock_installed.specs.declared.step.Step.{Step}
use Rattle.pylock_installed.specs.declared.step.Step.TheVariants as step

-- an entry is installed, or installed in place of a project of its name; a project stays, or goes
pub data StepValue : Type 0 where
  Install : ℕ → StepValue
  Replace : ℕ → ProjectValue → StepValue
  Keep : ProjectValue → StepValue
  Remove : ProjectValue → StepValue

-- ---- a pick

-- what is done for an entry of the plan, with the project of its name if one is installed
abbrev pub step_for : Pick → EntryValue → Option ProjectValue → StepValue
step_for pick entry None = Install pick.id
step_for pick entry (Some project) =
    if is_picked entry pick.source project then Keep project else Replace pick.id project

-- a pick's number is that of an entry, so each has its step
abbrev pub pick_steps : State → List ProjectValue → Pick → List StepValue
pick_steps state installed pick =
    option_map_or (λ entry. step_for pick entry (project_named entry.name installed) ∷ [])
    (entry_at pick.id state.entries) []

-- ---- a project that the plan doesn't name

-- the pick's entry has the project's name
abbrev pub is_pick_of : State → ProjectValue → Pick → Bool
is_pick_of state project pick =
    option_map_or (λ entry. is_named entry.name project) (entry_at pick.id state.entries) false

abbrev pub is_planned : State → List Pick → ProjectValue → Bool
is_planned state picks project = list_any (is_pick_of state project) picks

-- what an environment is made with
abbrev pub is_tool : ProjectValue → Bool
is_tool project =
    list_any (bytes_eq project.name) (codes "pip" ∷ codes "setuptools" ∷ codes "wheel" ∷ [])

-- only where the plan is to be all that there is do these go too
abbrev pub other_step : (is_exact : Bool) → ProjectValue → StepValue
other_step is_exact project =
    if not is_exact && is_tool project then Keep project else Remove project

-- ---- all

-- for each pick, in order, and then for each project that the plan doesn't name, in order
unfoldable pub steps : State → List Pick → List ProjectValue → (is_exact : Bool) → List StepValue
steps state picks installed is_exact =
    flat_map (pick_steps state installed) picks
    ++ map (other_step is_exact) (filter (λ p. not (is_planned state picks p)) installed)

abbrev pub is_keep : StepValue → Bool
is_keep (Keep project) = true
is_keep step = false

-- nothing is left to do
abbrev pub is_done : List StepValue → Bool
is_done steps = list_all is_keep steps

-- a step that lends its project
abbrev pub lent_step : Step → StepValue
lent_step (step.Install number) = Install number
lent_step (step.Replace number project) = Replace number project.now
lent_step (step.Keep project) = Keep project.now
lent_step (step.Remove project) = Remove project.now
