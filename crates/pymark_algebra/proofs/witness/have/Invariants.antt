use Rattle.std.proofs.Common.{take}
use Rattle.pymark_algebra.specs.Questions.{AllHave}
use Rattle.pymark_algebra.proofs.witness.have.Given as goal

abbrev pub invariant-loop-condition : goal.invariant-loop-condition
invariant-loop-condition l = AllHave l.environment (take l.condition-index l.conditions)
