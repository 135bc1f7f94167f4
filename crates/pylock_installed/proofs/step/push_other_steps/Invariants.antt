use Rattle.std.proofs.Common.{◌≡◌, ◌++◌, filter, map, not, take}
use Rattle.pylock_installed.specs.Inner.Tables.{has}
use Rattle.pylock_installed.specs.Steps.{lent_step, other_step}
use Rattle.pylock_installed.proofs.step.push_other_steps.Given as goal

-- the steps of the projects so far are there
abbrev pub invariant-loop-project : goal.invariant-loop-project
invariant-loop-project l =
    map lent_step l.steps.items
    ≡ map lent_step l.fn.steps.items ++ map (other_step l.is_exact) (filter (λ p. not (has l.planned p.name)) (take l.project-index l.projects))
