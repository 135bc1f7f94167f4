use Rattle.pylock_advisories.proofs.LeastLemmas.{least_is_given, least_is_lowest}
use Rattle.pylock_advisories.proofs.laws.least_stands_first.Goals as goal

pub returns : goal.returns
returns c = record { given = least_is_given; first = least_is_lowest }
