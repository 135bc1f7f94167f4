use Rattle.std.proofs.Common.{true}
use Rattle.pymark_algebra.proofs.QuestionLemmas.{says_one}
use Rattle.pymark_algebra.proofs.questions.is_never_true.Goals as goal

pub returns : goal.returns
returns c =
    says_one c.are_never.result c.is_true.result c.args.marker.now true c.is_true.ensures.marker c.is_true.ensures.wanted c.are_never.ensures
