use Rattle.pymark_algebra.proofs.QuestionLemmas.{says_have}
use Rattle.pymark_algebra.proofs.questions.are_never.Goals as goal

pub returns : goal.returns
returns c = says_have c.are_never_of.result c.args.conditions.now c.are_never_of.ensures
