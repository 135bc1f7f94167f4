use Rattle.std.proofs.Common.{◌≡◌}
use Rattle.toml.specs.Data.{Items}
use Rattle.toml.specs.View.{items_view}
use Rattle.pylock_readers.specs.Lock.Packages.{HasRead}
use Rattle.pylock_readers.proofs.ElementLemmas.{appended}
use Rattle.pylock_readers.proofs.lock.elements.Packages.of.Given as goal

-- the elements that were read, with those that are left behind them, are all
abbrev pub invariant-loop-value : goal.invariant-loop-value
invariant-loop-value l =
    (taken : Items) × HasRead l.packages taken × (appended taken (items_view l.value-iterator.rest.items) ≡ items_view l.fn.values.items)
