use Rattle.std.proofs.Common.{arith}
use Rattle.pytext.proofs.BytesLemmas.{prefixes}
use Rattle.pyver_core.proofs.version.reading.scan.read_segment.Goals as goal

pub split_at-requires : goal.split_at-requires
split_at-requires c = grind (arith, prefixes)

pub new-requires : goal.new-requires
new-requires c = grind (arith, prefixes)
