use Rattle.std.proofs.Common.{◌≡◌, ℕ, List, take}
use Rattle.pylock_installed.specs.Inner.Tables.{found}
use Rattle.pylock_installed.specs.Project.{project_named}
use Rattle.pylock_installed.proofs.tables.by_name.Given as goal

-- the projects so far are found
abbrev pub invariant-loop-project : goal.invariant-loop-project
invariant-loop-project l = (name : List ℕ) → found l.table name ≡ project_named name (take l.project-index l.projects)
