-- What is told of what was taken out.
use Rattle.std.proofs.Common.{rules}
use Rattle.pylock_c.specs.Algebra.{SaysImplied, environment_told, markers_in}
use Rattle.pylock_c.proofs.AlgebraLemmas.{answers_kept}
use Rattle.pylock_c.proofs.algebra.pylock_marker_implies.Goals as goal

pub returns-clause-told : goal.returns-clause-told
returns-clause-told c =
    answers_kept SaysImplied environment_told c.implied_in.result (λ i. markers_in (c.take-kept.ensures.taken i) (c.take-other.ensures.taken i))
    (Prim.search rules) c.implied_in.ensures c.leave_environment-code.ensures
