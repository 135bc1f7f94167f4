use Rattle.pylock_environments.proofs.LawLemmas.{never_is_unplanned}
use Rattle.pylock_environments.proofs.laws.what_never_stands_is_unplanned.Goals as goal

pub returns : goal.returns
returns c = λ head entries found state number plan shown of among is. never_is_unplanned head entries state of found number plan shown among is
