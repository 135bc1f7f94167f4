use Rattle.std.proofs.Common.{ap, ◌∙◌}
use Rattle.std.specs.BTreeSet.{contains}
use Rattle.pylock_matrix.specs.declared.taken.Mark.{Mark}
use Rattle.pylock_matrix.specs.contracts.taken.MarkOrd.TheImpl.{cmp-value as marks}
use Rattle.pylock_matrix.proofs.taken.Taken.has.Goals as goal

pub returns : goal.returns
returns c = c.contains.ensures ∙ ap (λ (mark : Mark). contains marks.it c.args.self.now.marks mark) c.mark_of.ensures
