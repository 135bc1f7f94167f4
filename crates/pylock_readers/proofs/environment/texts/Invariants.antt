use Rattle.std.proofs.Common.{◌≡◌, map, drop}
use Rattle.serde_json.specs.View.{items_view}
use Rattle.pylock_readers.specs.Environment.{texts_in}
use Rattle.pylock_readers.proofs.PrefixLemmas.{after_prefix}
use Rattle.pylock_readers.proofs.environment.texts.Given as goal

-- the texts so far, and those of the items that are left
abbrev pub invariant-loop-item : goal.invariant-loop-item
invariant-loop-item l =
    after_prefix (map (λ text. text.now) l.texts.items) (texts_in (items_view (drop l.item-index l.items)))
    ≡ texts_in (items_view l.items)
