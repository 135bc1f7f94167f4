use Rattle.std.proofs.Common.{take}
use Rattle.pymark_algebra.specs.Questions.{AllSay}
use Rattle.pymark_algebra.proofs.witness.say.Given as goal

abbrev pub invariant-loop-python : goal.invariant-loop-python
invariant-loop-python l = AllSay l.environment (take l.python-index l.pythons)
