use Rattle.pylock_environments.proofs.RowLemmas.{never_told}
use Rattle.pylock_environments.proofs.rows.never.Goals as goal

pub returns : goal.returns
returns c = never_told c.args.lock.now.head.now c.args.weighed.now.entry.now c.in_ok-answer.answer c.in_ok-answer.ensures c.never_by.result c.never_by.ensures
