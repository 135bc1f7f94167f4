use Rattle.toml.specs.Data.{no_items}
use Rattle.pylock_metadata.proofs.reading.described_document.Goals as goal

pub returns : goal.returns
returns c = c.described_rest.ensures no_items c.new.ensures.packages c.new.ensures.entries
