use Rattle.pylock_advisories.proofs.StepLemmas as lemma
use Rattle.pylock_advisories.proofs.laws.steps_agree.Goals as goal

pub returns : goal.returns
returns c = lemma.steps_agree
