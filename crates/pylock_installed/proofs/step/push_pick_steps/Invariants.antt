use Rattle.std.proofs.Common.{◌≡◌, ◌++◌, map, take}
use Rattle.std.specs.List.{flat_map}
use Rattle.pylock_installed.specs.Inner.Tables.{found_steps}
use Rattle.pylock_installed.specs.Steps.{lent_step}
use Rattle.pylock_installed.proofs.step.push_pick_steps.Given as goal

-- the steps of the picks so far are there
abbrev pub invariant-loop-pick : goal.invariant-loop-pick
invariant-loop-pick l =
    map lent_step l.steps.items ≡ map lent_step l.fn.steps.items ++ flat_map (found_steps l.session.state l.projects) (take l.pick-index l.picks)
