use Rattle.pylock_diff.proofs.Same.Law.{same, told}
use Rattle.pylock_diff.proofs.laws.nothing_changes_exactly_where_the_lock_is_the_same.Goals as goal

pub returns-clause-told : goal.returns-clause-told
returns-clause-told c = told

pub returns-clause-same : goal.returns-clause-same
returns-clause-same c = same
