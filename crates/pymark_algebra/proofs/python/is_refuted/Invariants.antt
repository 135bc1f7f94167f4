use Rattle.pyver_algebra.specs.Limits.{Keeps}
use Rattle.pyver_core.specs.Version.Parts.{Parts}
use Rattle.pymark_core.specs.Environment.{EnvironmentValue}
use Rattle.pymark_clauses.specs.Clauses.{ClauseHolds}
use Rattle.pymark_algebra.specs.Coherent.{IsPython}
use Rattle.pymark_algebra.specs.Questions.{AllSay}
use Rattle.pymark_algebra.proofs.python.is_refuted.Given as goal

abbrev pub invariant-loop-literal : goal.invariant-loop-literal
invariant-loop-literal l =
    (version : Parts) (environment : EnvironmentValue) → IsPython version environment
    → AllSay environment l.pythons → ClauseHolds environment l.clause → Keeps l.bounds version
