-- Coherent environments: those that an interpreter of Python may have. Of any texts at all for the
-- variables hardly anything would be true: with `python_full_version` `3.5x`, which spells no
-- version, both `< '3.9'` and `>= '3.10'` hold, since texts are compared then (PEP 508,
-- "Environment Markers").
use Rattle.std.specs.Prelude.{◌≡◌, IfSome}
use Rattle.pyver_algebra.specs.FirstTwo.{first_two}
use Rattle.pyver_core.specs.Version.Grammar.{Spells}
use Rattle.pyver_core.specs.Version.Parts.{Parts}
use Rattle.pymark_core.specs.Environment.{EnvironmentValue, variable_in}
use Rattle.pymark_core.specs.declared.variable.Var.TheVariants.{PythonFullVersion, PythonVersion}
use Rattle.pymark_algebra.specs.Platforms.{IsOn}
use Rattle.pymark_algebra.specs.declared.platform.Platform.{Platform}

-- The Python is of this version: where they are set, `python_full_version` spells it, and
-- `python_version` its first two numbers.
pub record IsPython (version : Parts) (environment : EnvironmentValue) : Type 0 where
  pub epoch : version.epoch ≡ 0
  pub whole : IfSome (variable_in PythonFullVersion environment) (λ text. Spells text version)
  pub first : IfSome (variable_in PythonVersion environment)
      (λ text. Spells text (first_two version))

-- There is a version that the Python is of, and a platform that it is on. Every variable may be
-- unset, and those that are named in neither may have any text.
pub record IsCoherent (environment : EnvironmentValue) : Type 0 where
  pub version : Parts
  pub python : IsPython version environment
  pub platform : Platform
  pub is_on : IsOn platform environment
