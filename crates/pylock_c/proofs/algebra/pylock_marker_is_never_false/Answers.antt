-- What is told of what was taken out.
use Rattle.std.proofs.Common.{ap, rules}
use Rattle.pylock_c.specs.Algebra.{SaysNeverFalse, environment_told}
use Rattle.pylock_c.specs.Markers.{marker_in}
use Rattle.pylock_c.proofs.AlgebraLemmas.{answers_kept}
use Rattle.pylock_c.proofs.algebra.pylock_marker_is_never_false.Goals as goal

pub returns-clause-told : goal.returns-clause-told
returns-clause-told c =
    answers_kept SaysNeverFalse environment_told c.never_false_in.result (ap marker_in c.take-kept.ensures.taken)
    (Prim.search rules) c.never_false_in.ensures c.leave_environment-code.ensures
