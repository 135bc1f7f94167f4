use Rattle.pymark_core.proofs.Lemmas.Building.Notes.{both_gained}
use Rattle.pymark_core.proofs.marker.notes.Notes.add.Goals as goal

pub returns-clause-reads : goal.returns-clause-reads
returns-clause-reads c = both_gained c.args.self.now.reads _ _ c.args.left.now c.args.right.now c.insert_operand.ensures c.insert_operand-2.ensures
