use Rattle.std.proofs.Common.{subst, sym}
use Rattle.std.specs.Global.{Global}
use Rattle.std.specs.declared.vec.Vec.{Vec}
use Rattle.std.proofs.lemmas.List.Elements.{All-nil}
use Rattle.pymark_core.specs.Environment.{EnvironmentValue}
use Rattle.pymark_clauses.specs.Clauses.{LiteralHolds, SomeHolds}
use Rattle.pymark_clauses.specs.declared.clauses.Literal.{Literal}
use Rattle.pymark_algebra.specs.Questions.{AllHave}
use Rattle.pymark_algebra.proofs.ClauseLemmas.{at_some}
use Rattle.pymark_algebra.proofs.questions.are_never_of.Goals as goal

pub returns-in_default-2 : goal.returns-in_default-2
returns-in_default-2 c = λ e coherent holds. c.in_ok-first.ensures.none c.in_default-2.is e coherent holds.0
    (subst (SomeHolds e) (sym c.deref.ensures.value)
    (at_some (λ (v : Vec (Vec Literal Global) Global). (e : EnvironmentValue) → AllHave e c.args.conditions.now → SomeHolds e v.items)
    c.in_ok-clauses.field-0 c.in-Some.clauses c.in_ok-clauses.ensures c.in-Some.is e holds.1))

pub returns-then-branch-2 : goal.returns-then-branch-2
returns-then-branch-2 c = λ e coherent holds.
    c.in_ok-is_refuted.ensures c.if-branch-2.true e coherent holds.0 (All-nil (LiteralHolds e))
