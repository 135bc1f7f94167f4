-- Clauses whose literals hold together in no coherent environment.
use Rattle.std.specs.Prelude.{◌≡◌, ◌⊎◌, List, Some}
use Rattle.std.specs.List.{All}
use Rattle.std.specs.Global.{Global}
use Rattle.std.specs.declared.vec.Vec.{Vec}
use Rattle.pyver_core.specs.Set.Admission.{admits}
use Rattle.pyver_core.specs.Version.Parts.{Parts}
use Rattle.pyver_algebra.specs.Limits.{Keeps}
use Rattle.pyver_algebra.specs.declared.limit.Limit.{Limit}
use Rattle.pymark_core.specs.Environment.{EnvironmentValue, variable_in}
use Rattle.pymark_core.specs.Marker.Asked.{operand_variable}
use Rattle.pymark_core.specs.Marker.Comparison.{ComparisonValue}
use Rattle.pymark_core.specs.declared.variable.Var.{Var}
use Rattle.pymark_clauses.specs.Clauses.{ClauseHolds, LiteralHolds, SomeHolds}
use Rattle.pymark_clauses.specs.declared.clauses.Literal.{Literal}
use Rattle.pymark_algebra.specs.Coherent.{IsCoherent, IsPython}
use Rattle.pymark_algebra.specs.Platforms.{IsOn}
use Rattle.pymark_algebra.specs.Questions.{AllSay}
use Rattle.pymark_algebra.specs.declared.answer.PythonCondition.{PythonCondition}
use Rattle.pymark_algebra.specs.declared.platform.Platform.{Platform}
use Rattle.pymark_algebra.specs.declared.text.Told.{Told}

-- in no coherent environment do all literals hold
abbrev pub IsRefuted : List Literal → Type 0
IsRefuted clause =
    (environment : EnvironmentValue) → IsCoherent environment → ClauseHolds environment clause → ⊥

-- in no coherent one in which each specifier says what is wanted of it do they
abbrev pub IsRefutedUnder : List PythonCondition → List Literal → Type 0
IsRefutedUnder pythons clause =
    (environment : EnvironmentValue) → IsCoherent environment → AllSay environment pythons
    → ClauseHolds environment clause → ⊥

-- on the platform they don't
abbrev pub IsRefutedOn : Platform → List Literal → Type 0
IsRefutedOn platform clause =
    (environment : EnvironmentValue) → IsOn platform environment
    → ClauseHolds environment clause → ⊥

-- nor does this one
abbrev pub IsNeverOn : Platform → Literal → Type 0
IsNeverOn platform literal =
    (environment : EnvironmentValue) → IsOn platform environment
    → LiteralHolds environment literal → ⊥

-- an operand of the comparison is this variable
abbrev pub IsVariableOf : Var → ComparisonValue → Type 0
IsVariableOf variable comparison =
    (operand_variable comparison.left ≡ Some variable)
    ⊎ (operand_variable comparison.right ≡ Some variable)

-- where the variable has the text they don't
abbrev pub IsRefutedBy : Told → List Literal → Type 0
IsRefutedBy told clause =
    (environment : EnvironmentValue)
    → variable_in told.variable environment ≡ Some told.text.now
    → ClauseHolds environment clause → ⊥

-- where the literal holds, a Python whose version keeps the old limits keeps the new ones
abbrev pub FollowFrom : Literal → List Limit → List Limit → Type 0
FollowFrom literal old new =
    (version : Parts) (environment : EnvironmentValue) → IsPython version environment
    → LiteralHolds environment literal → Keeps old version → Keeps new version

-- each specifier admits the version, or doesn't, as is wanted
abbrev pub AllJudge : List PythonCondition → Parts → Type 0
AllJudge pythons version =
    All (λ python. admits python.specifier.now version ≡ python.wanted) pythons

-- in no coherent environment in which each specifier says what is wanted of it does one of the
-- clauses hold
abbrev pub AreRefutedUnder : List PythonCondition → List (Vec Literal Global) → Type 0
AreRefutedUnder pythons clauses =
    (environment : EnvironmentValue) → IsCoherent environment → AllSay environment pythons
    → SomeHolds environment clauses → ⊥

-- in no environment do both literals hold
abbrev pub AreOpposite : Literal → Literal → Type 0
AreOpposite first second =
    (environment : EnvironmentValue) → LiteralHolds environment first
    → LiteralHolds environment second → ⊥

-- nor the literal and the clause
abbrev pub IsRefutedBeside : Literal → List Literal → Type 0
IsRefutedBeside literal clause =
    (environment : EnvironmentValue) → LiteralHolds environment literal
    → ClauseHolds environment clause → ⊥
