use Rattle.pylock_diff.proofs.ChangeLemmas.{lock_itself, plan_itself}
use Rattle.pylock_diff.proofs.laws.nothing_changes_from_itself.Goals as goal

pub returns-clause-locks : goal.returns-clause-locks
returns-clause-locks c = lock_itself

pub returns-clause-plans : goal.returns-clause-plans
returns-clause-plans c = plan_itself
