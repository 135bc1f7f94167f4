use Rattle.pylock_metadata.proofs.DescribedLemmas.{given}
use Rattle.pylock_metadata.proofs.reading.read_with_metadata.Goals as goal

pub returns : goal.returns
returns c = given c.args.bytes.now c.described_bytes.result c.described_bytes.ensures
