use Rattle.pylock_core.proofs.session.start_and_edit.make_edit.Goals as goal

pub returns-in-Del-clause-left : goal.returns-in-Del-clause-left
returns-in-Del-clause-left c = rw c.in-Del.is (c.delete_entry.ensures.left c.args.judged.now)
