-- What is told of what was taken out.
use Rattle.std.proofs.Common.{ap, rules}
use Rattle.pylock_c.specs.Algebra.{SaysNeverTrue, environment_told}
use Rattle.pylock_c.specs.Markers.{marker_in}
use Rattle.pylock_c.proofs.AlgebraLemmas.{answers_kept}
use Rattle.pylock_c.proofs.algebra.pylock_marker_is_never_true.Goals as goal

pub returns-clause-told : goal.returns-clause-told
returns-clause-told c =
    answers_kept SaysNeverTrue environment_told c.never_true_in.result (ap marker_in c.take-kept.ensures.taken)
    (Prim.search rules) c.never_true_in.ensures c.leave_environment-code.ensures
