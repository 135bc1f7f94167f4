use Rattle.std.proofs.Common.{sym}
use Rattle.pyver_core.proofs.Lemmas.Set.NormalOperand.{normal_operand}
use Rattle.pyver_core.proofs.set.reading.normal_operand.read_normal_operand.Goals as goal

pub returns-in-Some-2 : goal.returns-in-Some-2
returns-in-Some-2 c =
    let found = rw c.in-Some-2.is at c.in_ok-version.ensures in
    let normal = rw c.after_white.ensures at found.0 in
    rw c.with_version.ensures (normal_operand c.args.operator c.args.text.now c.in-Some-2.version c.in-Some.least (sym c.in-Some.ensures) found.2 normal found.1)
