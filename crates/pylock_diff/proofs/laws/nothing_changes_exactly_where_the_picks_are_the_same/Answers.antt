use Rattle.pylock_diff.proofs.PlanLemmas.{answers_told, answers_same}
use Rattle.pylock_diff.proofs.laws.nothing_changes_exactly_where_the_picks_are_the_same.Goals as goal

pub returns-clause-told : goal.returns-clause-told
returns-clause-told c = answers_told

pub returns-clause-same : goal.returns-clause-same
returns-clause-same c = answers_same
