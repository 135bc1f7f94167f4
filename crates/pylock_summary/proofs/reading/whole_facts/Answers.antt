use Rattle.toml.specs.Data.{no_items}
use Rattle.pylock_summary.proofs.reading.whole_facts.Goals as goal

pub returns : goal.returns
returns c = c.facts_in.ensures no_items c.new.ensures
