use Rattle.std.proofs.Common.{take}
use Rattle.pylock_program.specs.Each.{AreEach}
use Rattle.pylock_program.specs.Sarif.{IsResult}
use Rattle.pylock_program.proofs.sarif.results_of.Given as goal

-- the results so far
abbrev pub invariant-loop-one : goal.invariant-loop-one
invariant-loop-one l = AreEach IsResult (take l.one-index l.located) l.results.items
