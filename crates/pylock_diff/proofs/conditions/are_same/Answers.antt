use Rattle.std.proofs.Common.{◌∙◌}
use Rattle.pylock_diff.proofs.TextLemmas.{same_options}
use Rattle.pylock_diff.proofs.conditions.are_same.Goals as goal

pub returns : goal.returns
returns c = c.eq.ensures ∙ same_options c.args.olds.now c.args.news.now
