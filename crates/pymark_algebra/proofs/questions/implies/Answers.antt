use Rattle.std.proofs.Common.{false, true}
use Rattle.pymark_algebra.proofs.QuestionLemmas.{says_two}
use Rattle.pymark_algebra.proofs.questions.implies.Goals as goal

pub returns : goal.returns
returns c =
    says_two c.are_never.result c.is_true.result c.is_false.result c.args.first.now c.args.second.now true false
    c.is_true.ensures.marker c.is_true.ensures.wanted c.is_false.ensures.marker c.is_false.ensures.wanted c.are_never.ensures
