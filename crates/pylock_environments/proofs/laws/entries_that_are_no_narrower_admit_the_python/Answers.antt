use Rattle.pylock_environments.proofs.LawLemmas.{never_unmet}
use Rattle.pylock_environments.proofs.laws.entries_that_are_no_narrower_admit_the_python.Goals as goal

pub returns : goal.returns
returns c = λ head entries found state number whole of nothing is. never_unmet head entries state of found number whole nothing is
