use Rattle.pyver_algebra.specs.Limits.{Keeps}
use Rattle.pyver_core.specs.Version.Parts.{Parts}
use Rattle.pymark_algebra.specs.Refuted.{AllJudge}
use Rattle.pymark_algebra.proofs.python.judged_bounds.Given as goal

abbrev pub invariant-loop-python : goal.invariant-loop-python
invariant-loop-python l =
    (version : Parts) → AllJudge l.pythons version → Keeps l.bounds version
