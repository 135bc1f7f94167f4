use Rattle.std.proofs.Common.{◌≡◌, ◌++◌, drop}
use Rattle.toml.specs.View.{items_view}
use Rattle.pylock_metadata.specs.Inner.Names.{lent_rows, number_under}
use Rattle.pylock_metadata.specs.Named.{dependents_of}
use Rattle.pylock_metadata.specs.View.{dependents_view}
use Rattle.pylock_metadata.proofs.named.dependents.Given as goal

-- those so far, and those of the rows that are left
abbrev pub invariant-loop-number : goal.invariant-loop-number
invariant-loop-number l =
    dependents_view l.list.items ++ dependents_of (items_view l.packages) (number_under l.numbers) (lent_rows (drop l.number-index l.rows))
    ≡ dependents_of (items_view l.packages) (number_under l.numbers) (lent_rows l.rows)
