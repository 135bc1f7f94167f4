use Rattle.std.proofs.Common.{◌≡◌, ◌++◌, map, take}
use Rattle.pylock_installed.specs.Steps.{lent_step}
use Rattle.pylock_installed.specs.Written.{steps_text}
use Rattle.pylock_installed.proofs.line.push_steps.Given as goal

-- the lines of the steps so far are there
abbrev pub invariant-loop-step : goal.invariant-loop-step
invariant-loop-step l = l.out.items ≡ l.fn.out.items ++ steps_text l.session.state (map lent_step (take l.step-index l.steps))
