use Rattle.std.proofs.Common.{◌∙◌, ap}
use Rattle.toml.specs.Data.{no_items}
use Rattle.toml.specs.View.{items_view}
use Rattle.pylock_readers.proofs.ElementLemmas.{appended_all}
use Rattle.pylock_readers.proofs.lock.elements.Packages.of.Goals as goal

pub loop-value-init : goal.loop-value-init
loop-value-init c = (no_items, c.new-packages.ensures, appended_all (items_view c.into_iter-value-iterator.result.rest.items) ∙ ap items_view c.into_iter-value-iterator.ensures.into_iter_gives.0)
