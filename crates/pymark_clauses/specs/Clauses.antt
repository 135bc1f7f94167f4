-- Clauses: comparisons of a marker with the values that all of them have in an environment (PEP
-- 508, "Environment Markers"). A marker's disjunctive form is a list of clauses.
use Rattle.std.specs.Prelude.{◌≡◌, ◌↔◌, ◌++◌, Bool, Ok, None, List, [], ◌∷◌, map}
use Rattle.std.specs.Global.{Global}
use Rattle.std.specs.List.{All, Any}
use Rattle.std.specs.declared.vec.Vec.{Vec}
use Rattle.pymark_core.specs.Environment.{EnvironmentValue}
use Rattle.pymark_core.specs.Marker.Value.{comparison_value}
use Rattle.pymark_clauses.specs.declared.clauses.Literal.{Literal}

-- the comparison has the value that is wanted of it; `extra` has no text, as in a lock
abbrev pub LiteralHolds : EnvironmentValue → Literal → Type 0
LiteralHolds environment literal =
    comparison_value None environment literal.comparison.now ≡ Ok literal.wanted

-- all literals of a clause hold
abbrev pub ClauseHolds : EnvironmentValue → List Literal → Type 0
ClauseHolds environment clause = All (LiteralHolds environment) clause

-- some clause holds
abbrev pub SomeHolds : EnvironmentValue → List (Vec Literal Global) → Type 0
SomeHolds environment clauses = Any (λ clause. ClauseHolds environment clause.items) clauses

-- a clause holds exactly where a value is the one that is wanted
abbrev pub Tells : EnvironmentValue → Bool → Bool → List (Vec Literal Global) → Type 0
Tells environment wanted value clauses = (value ≡ wanted) ↔ SomeHolds environment clauses

-- clauses as lists of literals
abbrev pub lists_of : List (Vec Literal Global) → List (List Literal)
lists_of clauses = map (λ clause. clause.items) clauses

-- a clause with each of others
abbrev pub with_each : List Literal → List (List Literal) → List (List Literal)
with_each clause others = map (λ other. clause ++ other) others

-- each of the first lists with each of the second
abbrev pub product : List (List Literal) → List (List Literal) → List (List Literal)
product [] others = []
product (clause ∷ clauses) others = with_each clause others ++ product clauses others
