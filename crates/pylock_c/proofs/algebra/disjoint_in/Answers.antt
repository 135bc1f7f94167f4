-- What is answered of the two sets that the slots keep.
use Rattle.std.proofs.Common.{rules}
use Rattle.pylock_c.proofs.algebra.disjoint_in.Goals as goal

pub returns : goal.returns
returns c = ((c.in_ok-first.first.now, c.in_ok-second.second.now), Prim.search rules, c.in_ok-is_disjoint.ensures)
