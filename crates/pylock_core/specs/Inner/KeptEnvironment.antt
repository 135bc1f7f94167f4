-- The environment of a session while it is edited: on another, and with the changes kept.
use Rattle.std.specs.Prelude.{◌≡◌, List, [], ◌∷◌, IfSome}
use Rattle.pymark_core.specs.Change.{changed}
use Rattle.pymark_core.specs.Environment.{EnvironmentValue}
use Rattle.pymark_core.specs.declared.change.Change.{Change}
use Rattle.pylock_core.specs.declared.session.kept_environment.EditedEnvironment.{EditedEnvironment}

-- the environment after these changes, one after another
abbrev pub changed_by : List Change → EnvironmentValue → EnvironmentValue
changed_by [] environment = environment
changed_by (change ∷ changes) environment = changed_by changes (changed change environment)

-- the changes, where they are kept, make the edited environment of this one
abbrev pub LeadsFrom : EnvironmentValue → EditedEnvironment → Type 0
LeadsFrom before edited =
    IfSome edited.changes (λ changes. changed_by changes.items before ≡ edited.environment)
