use Rattle.std.proofs.Common.{◌≡◌, [], drop}
use Rattle.toml.specs.View.{items_view}
use Rattle.pylock_metadata.specs.Inner.Names.{number_under}
use Rattle.pylock_metadata.specs.Named.{with_named}
use Rattle.pylock_metadata.proofs.named.numbers_named.Given as goal

-- those so far, with those that the elements left name
abbrev pub invariant-loop-element : goal.invariant-loop-element
invariant-loop-element l =
    with_named (items_view l.packages) (number_under l.numbers) l.found.keys (items_view (drop l.element-index l.elements))
    ≡ with_named (items_view l.packages) (number_under l.numbers) [] (items_view l.elements)
