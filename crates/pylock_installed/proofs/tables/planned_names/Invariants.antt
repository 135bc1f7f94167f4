use Rattle.std.proofs.Common.{◌≡◌, take}
use Rattle.pylock_installed.specs.Inner.Tables.{has}
use Rattle.pylock_installed.specs.Project.{ProjectValue}
use Rattle.pylock_installed.specs.Steps.{is_planned}
use Rattle.pylock_installed.proofs.tables.planned_names.Given as goal

-- the names of the picks so far are there
abbrev pub invariant-loop-pick : goal.invariant-loop-pick
invariant-loop-pick l = (project : ProjectValue) → has l.names project.name ≡ is_planned l.session.state (take l.pick-index l.picks) project
