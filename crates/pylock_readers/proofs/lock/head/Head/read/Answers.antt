use Rattle.std.proofs.Common.{arith}
use Rattle.std.proofs.lemmas.Result.{err_from_is_err_and}
use Rattle.pylock_readers.specs.Lock.Head.{head_in}
use Rattle.pylock_readers.proofs.TableLemmas.{kept}
use Rattle.pylock_readers.proofs.lock.head.Head.read.Goals as goal

pub returns-in_err-groups : goal.returns-in_err-groups
unfolding head_in
returns-in_err-groups c =
    let p = err_from_is_err_and c.from_residual-in_err-groups.result c.from_residual-in_err-groups.ensures.1 in
    rw (p.1, p.2) (λ other. grind (arith, kept, c.in_err-groups.ensures other))

pub returns-in_err-default_groups : goal.returns-in_err-default_groups
unfolding head_in
returns-in_err-default_groups c =
    let p = err_from_is_err_and c.from_residual-in_err-default_groups.result c.from_residual-in_err-default_groups.ensures.1 in
    rw (p.1, p.2) (λ other. grind (arith, kept, c.in_err-default_groups.ensures other))
