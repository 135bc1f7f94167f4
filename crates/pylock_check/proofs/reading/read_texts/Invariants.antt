use Rattle.std.proofs.Common.{◌≡◌, [], drop}
use Rattle.toml.specs.View.{items_view}
use Rattle.pylock_check.specs.Reading.{with_texts}
use Rattle.pylock_check.proofs.reading.read_texts.Given as goal

-- the elements that are left are still to be read
abbrev pub invariant-loop-element : goal.invariant-loop-element
invariant-loop-element l =
    with_texts l.texts.items (items_view (drop l.element-index l.elements)) ≡ with_texts [] (items_view l.elements)
