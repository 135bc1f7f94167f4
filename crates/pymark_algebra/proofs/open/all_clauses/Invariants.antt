use Rattle.pymark_core.specs.Environment.{EnvironmentValue}
use Rattle.pymark_clauses.specs.Clauses.{SomeHolds}
use Rattle.pymark_algebra.specs.Questions.{AllHave}
use Rattle.pymark_algebra.proofs.open.all_clauses.Given as goal

abbrev pub invariant-loop-condition : goal.invariant-loop-condition
invariant-loop-condition l =
    (environment : EnvironmentValue) → AllHave environment l.conditions → SomeHolds environment l.clauses.items
