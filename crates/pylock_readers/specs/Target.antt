-- The environment of a target, as a machine of its kind has it.
use Rattle.std.specs.Prelude.{ℕ, ◌++◌, List, codes, decimal, map}
use Rattle.std.specs.Prelude.{Option, Some, None, Result, Ok, Err}
use Rattle.std.specs.FinSet as set
use Rattle.pymark_core.specs.Environment.{EnvironmentValue}
use Rattle.pymark_core.specs.Variables.{variables}
use Rattle.pymark_core.specs.declared.variable.Var.{Var}
use Rattle.pymark_core.specs.declared.variable.Var.TheVariants as var
use Rattle.pywheel_core.specs.Tag.{TagValue}
use Rattle.pywheel_core.specs.Target.Names.{os_name, platform_machine, platform_system}
use Rattle.pywheel_core.specs.Target.Names.{sys_platform}
use Rattle.pywheel_core.specs.Target.Reading.{target_of}
use Rattle.pywheel_core.specs.Target.Tags.{target_tags}
use Rattle.pywheel_core.specs.Target.Value.{TargetValue}
use Rattle.pywheel_core.specs.declared.error.TargetError.{TargetError}
use Rattle.pywheel_core.specs.declared.error.TargetError.TheVariants as refused
use Rattle.pywheel_core.specs.declared.target.cpython.CPython.{CPython}
use Rattle.pylock_readers.specs.declared.error.EnvError.{EnvError}
use Rattle.pylock_readers.specs.declared.error.EnvError.TheVariants as error

-- ---- its variables (PEP 508, "Environment Markers")

-- the first two numbers of the release, as `3.12`
abbrev pub version_text : CPython → List ℕ
version_text python = codes "3." ++ decimal python.minor

-- all three, as `3.12.4`
abbrev pub release_text : CPython → List ℕ
release_text python =
    codes "3." ++ (decimal python.minor ++ (codes "." ++ decimal python.micro))

-- what is known of such a machine: not which release and which build of its system it has
abbrev pub variable_text : TargetValue → Var → Option (List ℕ)
variable_text target var.OsName = Some (os_name target.platform)
variable_text target var.SysPlatform = Some (sys_platform target.platform)
variable_text target var.PlatformMachine = Some (platform_machine target.platform)
variable_text target var.PlatformPythonImplementation = Some (codes "CPython")
variable_text target var.PlatformRelease = None
variable_text target var.PlatformSystem = Some (platform_system target.platform)
variable_text target var.PlatformVersion = None
variable_text target var.PythonVersion = Some (version_text target.python)
variable_text target var.PythonFullVersion = Some (release_text target.python)
variable_text target var.ImplementationName = Some (codes "cpython")
variable_text target var.ImplementationVersion = Some (release_text target.python)

-- a variable without a text is unset, so that a marker that reads it is a fault and never a guess;
-- nothing is asked for
unfoldable pub target_environment : TargetValue → EnvironmentValue
target_environment target = record {
  variables = map (variable_text target) variables;
  extras = set.empty;
  groups = set.empty;
}

-- ---- from its two texts

-- the refusal of a target is that of an environment
abbrev pub target_refusal : TargetError → EnvError
target_refusal refused.Python = error.Python
target_refusal refused.Platform = error.Platform

abbrev pub environment_of : Result TargetValue TargetError
    → Result (EnvironmentValue × List TagValue) EnvError
environment_of (Ok target) = Ok (target_environment target, target_tags target)
environment_of (Err e) = Err (target_refusal e)

-- the environment and the tags of PYTHON and PLATFORM
unfoldable pub target_env_of : List ℕ → List ℕ → Result (EnvironmentValue × List TagValue) EnvError
target_env_of python platform = environment_of (target_of python platform)
