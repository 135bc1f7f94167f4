-- The environment of a target, set variable by variable.
use Rattle.std.proofs.Common.{◌≡◌, fold, refl}
use Rattle.pymark_core.specs.Environment.{EnvironmentValue, empty_environment}
use Rattle.pymark_core.specs.Variables.{variables}
use Rattle.pymark_core.specs.declared.variable.Var.{Var}
use Rattle.pywheel_core.specs.Target.Value.{TargetValue}
use Rattle.pylock_readers.specs.Environment.{with_text}
use Rattle.pylock_readers.specs.Target.{target_environment, variable_text}

abbrev pub set_one : TargetValue → EnvironmentValue → Var → EnvironmentValue
set_one t e variable = with_text variable (variable_text t variable) e

pub all_set : (t : TargetValue) → fold (set_one t) empty_environment variables ≡ target_environment t
unfolding target_environment
all_set t = refl
