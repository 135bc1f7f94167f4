-- How far options are made.
use Rattle.std.specs.Prelude.{Bool, true, false, Option, Some, None, Result, Ok, Err}
use Rattle.pylock_command.specs.declared.option.PlanOption.{PlanOption}
use Rattle.pylock_core.specs.Session.State.{State}

-- the state that was reached, unless an option was refused
abbrev pub state_or_refused : Option PlanOption → State → Result State PlanOption
state_or_refused None state = Ok state
state_or_refused (Some option) state = Err option

-- the state that was reached, where all was accepted
abbrev pub state_if : Bool → State → Option State
state_if true state = Some state
state_if false state = None
