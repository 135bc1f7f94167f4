use Rattle.pylock_environments.proofs.LawLemmas.{never_ambiguous}
use Rattle.pylock_environments.proofs.laws.entries_without_a_clash_are_unambiguous.Goals as goal

pub returns : goal.returns
returns c = λ head entries found state number whole of nothing is. never_ambiguous head entries state of found number whole nothing is
