-- What is told of what was taken out.
use Rattle.std.proofs.Common.{rules}
use Rattle.pylock_c.specs.Algebra.{SaysDisjoint, sets_in, version_told}
use Rattle.pylock_c.proofs.AlgebraLemmas.{answers_kept}
use Rattle.pylock_c.proofs.algebra.pylock_set_is_disjoint.Goals as goal

pub returns-clause-told : goal.returns-clause-told
returns-clause-told c =
    answers_kept SaysDisjoint version_told c.disjoint_in.result (λ i. sets_in (c.take-kept.ensures.taken i) (c.take-other.ensures.taken i))
    (Prim.search rules) c.disjoint_in.ensures c.leave_version-code.ensures
