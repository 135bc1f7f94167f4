use Rattle.std.proofs.Common.{take}
use Rattle.std.specs.Global.{Global}
use Rattle.std.specs.List.{All}
use Rattle.std.specs.declared.vec.Vec.{Vec}
use Rattle.pymark_clauses.specs.declared.clauses.Literal.{Literal}
use Rattle.pymark_algebra.specs.Refuted.{IsRefutedUnder}
use Rattle.pymark_algebra.proofs.open.first_open.Given as goal

abbrev pub invariant-loop-index : goal.invariant-loop-index
invariant-loop-index l = All (λ (clause : Vec Literal Global). IsRefutedUnder l.pythons clause.items) (take l.index l.clauses)
