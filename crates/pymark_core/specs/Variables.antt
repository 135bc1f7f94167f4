-- The variables of markers and their names (PEP 508, "Environment Markers").
use Rattle.std.specs.Prelude.{ℕ, List, [], ◌∷◌, codes, Option, find}
use Rattle.std.specs.Str.{bytes_eq}
use Rattle.pymark_core.specs.declared.variable.Var.{Var}
use Rattle.pymark_core.specs.declared.variable.Var.TheVariants.{OsName, SysPlatform}
use Rattle.pymark_core.specs.declared.variable.Var.TheVariants.{PlatformMachine}
use Rattle.pymark_core.specs.declared.variable.Var.TheVariants.{PlatformPythonImplementation}
use Rattle.pymark_core.specs.declared.variable.Var.TheVariants.{PlatformRelease, PlatformSystem}
use Rattle.pymark_core.specs.declared.variable.Var.TheVariants.{PlatformVersion, PythonVersion}
use Rattle.pymark_core.specs.declared.variable.Var.TheVariants.{PythonFullVersion}
use Rattle.pymark_core.specs.declared.variable.Var.TheVariants.{ImplementationName}
use Rattle.pymark_core.specs.declared.variable.Var.TheVariants.{ImplementationVersion}

abbrev pub variable_name : Var → List ℕ
variable_name OsName = codes "os_name"
variable_name SysPlatform = codes "sys_platform"
variable_name PlatformMachine = codes "platform_machine"
variable_name PlatformPythonImplementation = codes "platform_python_implementation"
variable_name PlatformRelease = codes "platform_release"
variable_name PlatformSystem = codes "platform_system"
variable_name PlatformVersion = codes "platform_version"
variable_name PythonVersion = codes "python_version"
variable_name PythonFullVersion = codes "python_full_version"
variable_name ImplementationName = codes "implementation_name"
variable_name ImplementationVersion = codes "implementation_version"

-- the eleven variables
abbrev pub variables : List Var
variables =
    OsName ∷ SysPlatform ∷ PlatformMachine ∷ PlatformPythonImplementation ∷ PlatformRelease
    ∷ PlatformSystem ∷ PlatformVersion ∷ PythonVersion ∷ PythonFullVersion ∷ ImplementationName
    ∷ ImplementationVersion ∷ []

-- the variable of a name
abbrev pub variable_of : List ℕ → Option Var
variable_of name = find (λ variable. bytes_eq (variable_name variable) name) variables

-- the number of a variable, from 0: its index among the eleven
abbrev pub variable_number : Var → ℕ
variable_number OsName = 0
variable_number SysPlatform = 1
variable_number PlatformMachine = 2
variable_number PlatformPythonImplementation = 3
variable_number PlatformRelease = 4
variable_number PlatformSystem = 5
variable_number PlatformVersion = 6
variable_number PythonVersion = 7
variable_number PythonFullVersion = 8
variable_number ImplementationName = 9
variable_number ImplementationVersion = 10
