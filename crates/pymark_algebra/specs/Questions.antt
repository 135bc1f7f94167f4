-- What is asked of markers and of the version of Python, and what the answers say.
use Rattle.std.specs.Prelude.{◌≡◌, ℕ, Bool, List, Ok, Some}
use Rattle.std.specs.List.{All}
use Rattle.pyver_core.specs.Parsed.{parsed_version}
use Rattle.pyver_core.specs.Set.Admission.{admits}
use Rattle.pyver_core.specs.Version.Parts.{Parts}
use Rattle.pyver_core.specs.declared.set.specifier.Specifier.{Specifier}
use Rattle.pymark_core.specs.Environment.{EnvironmentValue, variable_in}
use Rattle.pymark_core.specs.Marker.Tree.{Tree}
use Rattle.pymark_core.specs.Marker.Value.{marker_value}
use Rattle.pymark_core.specs.declared.variable.Var.TheVariants.{PythonFullVersion}
use Rattle.pymark_algebra.specs.Coherent.{IsCoherent}
use Rattle.pymark_algebra.specs.declared.answer.Answer.{Answer}
use Rattle.pymark_algebra.specs.declared.answer.Answer.TheVariants.{Yes, No, Undecided}
use Rattle.pymark_algebra.specs.declared.answer.Condition.{Condition}
use Rattle.pymark_algebra.specs.declared.answer.PythonCondition.{PythonCondition}

-- the marker has the value in the environment; a fault is neither true nor false
abbrev pub Has : EnvironmentValue → Tree → Bool → Type 0
Has environment tree value = marker_value environment tree ≡ Ok value

-- the marker has none anywhere
abbrev pub IsValueless : Tree → Type 0
IsValueless tree = (environment : EnvironmentValue) (value : Bool) → Has environment tree value → ⊥

-- each marker has the value that is wanted of it
abbrev pub AllHave : EnvironmentValue → List Condition → Type 0
AllHave environment conditions =
    All (λ condition. Has environment condition.marker.now.tree condition.wanted) conditions

-- `python_full_version` spells a version that the specifier admits, or doesn't, as is wanted
abbrev pub PythonSays : EnvironmentValue → Specifier → Bool → Type 0
PythonSays environment specifier wanted =
    (text : List ℕ) × (version : Parts)
    × (variable_in PythonFullVersion environment ≡ Some text)
    × (parsed_version text ≡ Ok version) × (admits specifier version ≡ wanted)

-- each specifier says what is wanted of it
abbrev pub AllSay : EnvironmentValue → List PythonCondition → Type 0
AllSay environment pythons =
    All (λ python. PythonSays environment python.specifier.now python.wanted) pythons

-- yes says that this is so in no coherent environment, no that it is so in its environment, which
-- is coherent, and undecided says nothing
abbrev pub SaysNever : (EnvironmentValue → Type 0) → Answer → Type 0
SaysNever this Yes =
    (environment : EnvironmentValue) → IsCoherent environment → this environment → ⊥
SaysNever this (No environment) = IsCoherent environment × this environment
SaysNever this Undecided = Unit {0}
