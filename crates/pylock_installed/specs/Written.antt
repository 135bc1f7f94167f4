-- Steps as they are shown: as lines, and as a document.
use Rattle.std.specs.Prelude.{ℕ, codes, List, [], ◌∷◌, map, Option, Some, None, option_and_then}
use Rattle.std.specs.Prelude.{option_map}
use Rattle.std.specs.List.{flat_map}
use Rattle.pylock_json.specs.Json.{Row, list_of, maybe, maybe_numbered, object_of, there, truth}
use Rattle.pylock_core.specs.Session.State.{State, entry_at}
use Rattle.pylock_run.specs.Text.Field.{field, line_of}
use Rattle.pylock_installed.specs.Steps.{StepValue, Install, Replace, Keep, Remove, is_done}

-- ---- what is told of a step

abbrev pub step_word : StepValue → List ℕ
step_word (Install number) = codes "install"
step_word (Replace number project) = codes "replace"
step_word (Keep project) = codes "keep"
step_word (Remove project) = codes "remove"

-- the number of the entry that is installed
abbrev pub step_id : StepValue → Option ℕ
step_id (Install number) = Some number
step_id (Replace number project) = Some number
step_id (Keep project) = None
step_id (Remove project) = None

-- the name, which each step has, since the number is that of an entry
abbrev pub step_name : State → StepValue → Option (List ℕ)
step_name state (Install number) = option_map (λ e. e.name) (entry_at number state.entries)
step_name state (Replace number project) = Some project.name
step_name state (Keep project) = Some project.name
step_name state (Remove project) = Some project.name

-- the version that is installed by the step, that stays, or that goes
abbrev pub step_version : State → StepValue → Option (List ℕ)
step_version state (Install number) =
    option_and_then (λ entry. entry.version) (entry_at number state.entries)
step_version state (Replace number project) =
    option_and_then (λ entry. entry.version) (entry_at number state.entries)
step_version state (Keep project) = Some project.version
step_version state (Remove project) = Some project.version

-- the version in whose place another comes
abbrev pub step_from : StepValue → Option (List ℕ)
step_from (Install number) = None
step_from (Replace number project) = Some project.version
step_from (Keep project) = None
step_from (Remove project) = None

-- ---- lines

-- word, name, version, and the version that is replaced
abbrev pub step_line : State → StepValue → List ℕ
step_line state step =
    line_of (step_word step)
    (field (step_name state step) ∷ field (step_version state step) ∷ field (step_from step) ∷ [])

abbrev pub steps_text : State → List StepValue → List ℕ
steps_text state steps = flat_map (step_line state) steps

-- ---- the document

-- a field that is absent has no member
abbrev pub step_rows : State → StepValue → List Row
step_rows state step =
    (codes "step", there (step_word step))
    ∷ (codes "id", maybe_numbered (step_id step))
    ∷ (codes "name", maybe (step_name state step))
    ∷ (codes "version", maybe (step_version state step))
    ∷ (codes "from", maybe (step_from step))
    ∷ []

-- whether nothing is left to do, and the steps in order
abbrev pub steps_rows : State → List StepValue → List Row
steps_rows state steps =
    (codes "done", truth (is_done steps))
    ∷ (codes "steps", Some (list_of (map (λ step. object_of (step_rows state step)) steps)))
    ∷ []
