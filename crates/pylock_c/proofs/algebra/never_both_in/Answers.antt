-- What is answered of the two markers that the slots keep.
use Rattle.std.proofs.Common.{rules}
use Rattle.pylock_c.proofs.algebra.never_both_in.Goals as goal

pub returns : goal.returns
returns c = ((c.in_ok-first.first.now, c.in_ok-second.second.now), Prim.search rules, c.in_ok-are_disjoint.ensures)
