use Rattle.std.proofs.Common.{arith}
use Rattle.pyver_core.specs.Inner.Releases.{release_cmp_without_zeros}
use Rattle.pyver_core.proofs.Lemmas.Version.Fronts.{release_cmp_fronts}
use Rattle.pyver_core.proofs.version.order.compare_releases.Goals as goal

pub returns-in-Equal : goal.returns-in-Equal
returns-in-Equal c =
    let fronts = release_cmp_fronts c.min-both.result c.args.left.now c.args.right.now (omega arith) (omega arith) in
    let rest = release_cmp_without_zeros c.split_at.result.1.now c.split_at-2.result.1.now in
    grind arith

pub returns-in_default : goal.returns-in_default
returns-in_default c =
    let fronts = release_cmp_fronts c.min-both.result c.args.left.now c.args.right.now (omega arith) (omega arith) in
    grind arith
