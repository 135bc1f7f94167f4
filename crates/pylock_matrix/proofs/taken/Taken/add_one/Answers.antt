use Rattle.std.proofs.Common.{subst, true}
use Rattle.std.specs.BTreeSet.{Updates}
use Rattle.pylock_matrix.specs.declared.taken.Mark.{Mark}
use Rattle.pylock_matrix.specs.contracts.taken.MarkOrd.TheImpl.{cmp-value as marks}
use Rattle.pylock_matrix.proofs.TakenLemmas.{marked_more}
use Rattle.pylock_matrix.proofs.taken.Taken.add_one.Goals as goal

pub returns : goal.returns
returns c = λ other. marked_more c.args.self.now.marks c.insert.new.self c.args.pick other
    (subst (λ (mark : Mark). Updates marks.it c.args.self.now.marks c.insert.new.self mark true) c.mark_of.ensures c.in_ok-insert.ensures.updates)
