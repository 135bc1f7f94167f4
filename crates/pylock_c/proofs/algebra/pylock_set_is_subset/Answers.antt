-- What is told of what was taken out.
use Rattle.std.proofs.Common.{rules}
use Rattle.pylock_c.specs.Algebra.{SaysSubset, sets_in, version_told}
use Rattle.pylock_c.proofs.AlgebraLemmas.{answers_kept}
use Rattle.pylock_c.proofs.algebra.pylock_set_is_subset.Goals as goal

pub returns-clause-told : goal.returns-clause-told
returns-clause-told c =
    answers_kept SaysSubset version_told c.subset_in.result (λ i. sets_in (c.take-kept.ensures.taken i) (c.take-other.ensures.taken i))
    (Prim.search rules) c.subset_in.ensures c.leave_version-code.ensures
