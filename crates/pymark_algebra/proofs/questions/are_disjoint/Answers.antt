use Rattle.std.proofs.Common.{true}
use Rattle.pymark_algebra.proofs.QuestionLemmas.{says_two}
use Rattle.pymark_algebra.proofs.questions.are_disjoint.Goals as goal

pub returns : goal.returns
returns c =
    says_two c.are_never.result c.is_true.result c.is_true-2.result c.args.first.now c.args.second.now true true
    c.is_true.ensures.marker c.is_true.ensures.wanted c.is_true-2.ensures.marker c.is_true-2.ensures.wanted c.are_never.ensures
