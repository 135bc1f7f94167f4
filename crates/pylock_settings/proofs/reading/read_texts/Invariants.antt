use Rattle.std.proofs.Common.{◌≡◌, [], drop}
use Rattle.toml.specs.View.{items_view}
use Rattle.pylock_settings.specs.Reading.{with_texts}
use Rattle.pylock_settings.proofs.reading.read_texts.Given as goal

-- the elements that are left are still to be read
abbrev pub invariant-loop-element : goal.invariant-loop-element
invariant-loop-element l =
    with_texts l.key l.texts.items (items_view (drop l.element-index l.elements)) ≡ with_texts l.key [] (items_view l.elements)
