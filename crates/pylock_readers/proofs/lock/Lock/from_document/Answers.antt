use Rattle.toml.specs.Data.{no_items}
use Rattle.pylock_readers.proofs.lock.Lock.from_document.Goals as goal

pub returns : goal.returns
returns c = c.into_lock.ensures no_items c.new.ensures
