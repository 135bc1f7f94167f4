use Rattle.std.proofs.Common.{ap}
use Rattle.std.specs.BTreeMap.{is_at}
use Rattle.std.specs.List.{list_any}
use Rattle.pylock_matrix.specs.Inner.Taken.{mark_of}
use Rattle.pylock_matrix.specs.contracts.taken.MarkOrd.TheImpl.{cmp-value as marks}
use Rattle.pylock_matrix.proofs.taken.Taken.none.Goals as goal

pub returns : goal.returns
returns c = λ pick. ap (list_any (is_at (marks.it (mark_of pick)))) c.new.ensures.empty
