use Rattle.pylock_shown.proofs.CutLemmas.{last_at_is}
use Rattle.pylock_shown.proofs.text.around_last_at.Goals as goal

pub returns : goal.returns
returns c = last_at_is c.args.text.now c.rsplit_once.result c.rsplit_once.ensures.cases
