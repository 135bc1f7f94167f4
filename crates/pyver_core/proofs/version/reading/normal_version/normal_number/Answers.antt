use Rattle.std.proofs.Common.{arith}
use Rattle.pyver_core.proofs.Lemmas.Version.NormalVersion.{begun, first_digit}
use Rattle.pyver_core.proofs.version.reading.normal_version.normal_number.Goals as goal

pub returns-in-49-to-57-clause-text : goal.returns-in-49-to-57-clause-text
returns-in-49-to-57-clause-text c =
    begun c.args.bytes.now c.from.result _ c.with_digits.result (omega arith)
    (first_digit c.args.bytes.now c.from.result _ (omega arith) (omega arith) (omega arith)) c.with_digits.ensures.text
