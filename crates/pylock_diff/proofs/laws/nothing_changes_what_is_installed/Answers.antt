use Rattle.pylock_diff.proofs.Answered.Edits.{alike_pick_same}
use Rattle.pylock_diff.proofs.Answered.Law.{unchanged_pick_same}
use Rattle.pylock_diff.proofs.laws.nothing_changes_what_is_installed.Goals as goal

pub returns-clause-locks : goal.returns-clause-locks
returns-clause-locks c = unchanged_pick_same

pub returns-clause-states : goal.returns-clause-states
returns-clause-states c = alike_pick_same
