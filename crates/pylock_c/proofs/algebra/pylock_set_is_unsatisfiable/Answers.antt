-- What is told of what was taken out.
use Rattle.std.proofs.Common.{ap, rules}
use Rattle.pylock_c.specs.Algebra.{SaysUnsatisfiable, version_told}
use Rattle.pylock_c.specs.Sets.{set_in}
use Rattle.pylock_c.proofs.AlgebraLemmas.{answers_kept}
use Rattle.pylock_c.proofs.algebra.pylock_set_is_unsatisfiable.Goals as goal

pub returns-clause-told : goal.returns-clause-told
returns-clause-told c =
    answers_kept SaysUnsatisfiable version_told c.unsatisfiable_in.result (ap set_in c.take-kept.ensures.taken)
    (Prim.search rules) c.unsatisfiable_in.ensures c.leave_version-code.ensures
