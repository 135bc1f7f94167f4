use Rattle.std.proofs.lemmas.Str.Pattern.{split_once_first}
use Rattle.pymark_core.proofs.Lemmas.Requirement.Cuts.{cut_around_first}
use Rattle.pymark_core.proofs.requirement.parts.cut_around.Goals as goal

pub returns : goal.returns
returns c = cut_around_first c.args.mark c.args.text.now _ (split_once_first c.args.mark c.args.text.now _ c.split_once.ensures.cases c.requires)
