use Rattle.std.proofs.Common.{◌≡◌, map, take}
use Rattle.serde_json.specs.View.{view as data_of}
use Rattle.pylock_json.specs.Json.{object_of}
use Rattle.pylock_installed.specs.Steps.{lent_step}
use Rattle.pylock_installed.specs.Written.{step_rows}
use Rattle.pylock_installed.proofs.document.steps_list.Given as goal

-- the steps so far are in the list
abbrev pub invariant-loop-step : goal.invariant-loop-step
invariant-loop-step l =
    map data_of l.list ≡ map (λ step. object_of (step_rows l.session.state step)) (map lent_step (take l.step-index l.steps))
