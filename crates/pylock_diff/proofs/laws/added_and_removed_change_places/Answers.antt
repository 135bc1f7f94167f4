use Rattle.pylock_diff.proofs.TurnedLemmas.{answer_turned, lock_turned}
use Rattle.pylock_diff.proofs.laws.added_and_removed_change_places.Goals as goal

pub returns-clause-locks : goal.returns-clause-locks
returns-clause-locks c = lock_turned

pub returns-clause-answers : goal.returns-clause-answers
returns-clause-answers c = answer_turned
