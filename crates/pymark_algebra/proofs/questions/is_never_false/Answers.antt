use Rattle.std.proofs.Common.{false}
use Rattle.pymark_algebra.proofs.QuestionLemmas.{says_one}
use Rattle.pymark_algebra.proofs.questions.is_never_false.Goals as goal

pub returns : goal.returns
returns c =
    says_one c.are_never.result c.is_false.result c.args.marker.now false c.is_false.ensures.marker c.is_false.ensures.wanted c.are_never.ensures
