-- The clauses of which one holds.
use Rattle.std.proofs.Common.{◌≡◌, List, [], ◌∷◌, Option, Some, sym, subst}
use Rattle.std.specs.Global.{Global}
use Rattle.std.specs.List.{All}
use Rattle.std.specs.Option.{IfSome}
use Rattle.std.specs.declared.vec.Vec.{Vec}
use Rattle.std.proofs.lemmas.List.Elements.{All-nil}
use Rattle.std.proofs.lemmas.List.Quantifiers.{Any-push}
use Rattle.pymark_core.specs.Environment.{EnvironmentValue}
use Rattle.pymark_clauses.specs.Clauses.{ClauseHolds, LiteralHolds, SomeHolds}
use Rattle.pymark_clauses.specs.declared.clauses.Literal.{Literal}
use Rattle.pymark_algebra.specs.Refuted.{AreRefutedUnder, IsRefutedUnder}
use Rattle.pymark_algebra.specs.declared.answer.PythonCondition.{PythonCondition}

-- the clause of nothing holds
pub start_holds : (e : EnvironmentValue) (clauses : List (Vec Literal Global)) (c : Vec Literal Global) → clauses ≡ c ∷ [] → c.items ≡ []
    → SomeHolds e clauses
start_holds e clauses c is none = subst (SomeHolds e) (sym is)
    (Any-push (λ (v : Vec Literal Global). ClauseHolds e v.items) [] c (subst (ClauseHolds e) (sym none) (All-nil (LiteralHolds e))))

-- what holds of what was found holds of what is there
pub at_some : {X : Type 0} (P : X → Type 0) (found : Option X) (x : X) → IfSome found P → found ≡ Some x → P x
at_some {X} P found x each is = subst (λ (r : Option X). IfSome r P) is each

-- clauses that are refuted one by one
pub are_refuted : (pythons : List PythonCondition) (clauses : List (Vec Literal Global))
    → All (λ (v : Vec Literal Global). IsRefutedUnder pythons v.items) clauses → AreRefutedUnder pythons clauses
are_refuted pythons clauses each e coherent say some =
    each some.0 some.1 some.2 e coherent say (subst (λ (v : Vec Literal Global). ClauseHolds e v.items) (sym some.3) some.4)
