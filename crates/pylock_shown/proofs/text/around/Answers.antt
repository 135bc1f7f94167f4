use Rattle.pywheel_core.proofs.Lemmas.Texts.Cuts.{split_once_is}
use Rattle.pylock_shown.proofs.text.around.Goals as goal

pub returns : goal.returns
returns c = split_once_is c.args.mark c.args.text.now c.split_once.result (c.split_once.ensures.byte c.requires (λ w o f. f))
