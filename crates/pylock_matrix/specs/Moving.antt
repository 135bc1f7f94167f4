-- A state that is moved from one target to another, and the edits that a move commutes with.
use Rattle.std.specs.Prelude.{◌≡◌, ℕ, Bool, true, false, List, [], ◌∷◌, length, Option}
use Rattle.std.specs.Prelude.{Result}
use Rattle.std.specs.List.{flat_map}
use Rattle.std.specs.Result.{result_map_both}
use Rattle.pymark_core.specs.Environment.{EnvironmentValue, with_variable}
use Rattle.pymark_core.specs.declared.change.Change.TheVariants as change
use Rattle.pywheel_core.specs.Target.Tags.{target_tags}
use Rattle.pywheel_core.specs.Target.Value.{TargetValue}
use Rattle.pylock_readers.specs.Lock.{LockValue}
use Rattle.pylock_readers.specs.Target.{target_environment}
use Rattle.pylock_core.specs.Session.State.{State, first}
use Rattle.pylock_core.specs.declared.edit.Edit.{Edit}
use Rattle.pylock_core.specs.declared.edit.Edit.TheVariants as edit
use Rattle.pylock_core.specs.declared.edit.EditError.{EditError}
use Rattle.pylock_matrix.specs.declared.setting.Setting.{Setting}

-- ---- a move

-- the environment with these settings made, one after another: the last one of a variable counts
abbrev pub with_settings : List Setting → EnvironmentValue → EnvironmentValue
with_settings [] environment = environment
with_settings (setting ∷ settings) environment =
    with_settings settings (with_variable setting.variable setting.text environment)

-- the text of each variable on a target: that of a setting, else the target's own
abbrev pub variables_on : TargetValue → List Setting → List (Option (List ℕ))
variables_on target settings = (with_settings settings (target_environment target)).variables

-- the state on the target: the variables and the tags are what they are there, all else stays
abbrev pub placed : TargetValue → List Setting → State → State
placed target settings state = record state {
  environment = record state.environment { variables = variables_on target settings };
  tags = target_tags target;
}

-- a state without what a move changes: its variables and its tags
abbrev pub unmoved : State → State
unmoved state = record state {
  environment = record state.environment { variables = [] };
  tags = [];
}

-- the state has a place for each of the eleven variables, as it has on every target
abbrev pub HasVariables : State → Type 0
HasVariables state = length state.environment.variables ≡ 11

-- ---- edits, before a move and after it

-- whether an edit may as well be made on another target: each but one of the tags, and one that
-- unsets a variable
abbrev pub is_movable : Edit → Bool
is_movable (edit.Tags tags) = false
is_movable (edit.Environment (change.Unset variable)) = false
is_movable _ = true

-- the settings that an edit makes
abbrev pub settings_in : Edit → List Setting
settings_in (edit.Environment (change.Set variable text)) =
    record { variable = variable; text = text } ∷ []
settings_in _ = []

-- the settings that edits make, in order
abbrev pub settings_of : List Edit → List Setting
settings_of edits = flat_map settings_in edits

-- the state that edits gave, on the target; a refusal stays
abbrev pub placed_if : TargetValue → List Setting → Result State EditError → Result State EditError
placed_if target settings edited = result_map_both (placed target settings) (λ error. error) edited

-- the state in which a session begins on the target
abbrev pub first_on : TargetValue → LockValue → State
first_on target lock = first lock (target_environment target) (target_tags target)
