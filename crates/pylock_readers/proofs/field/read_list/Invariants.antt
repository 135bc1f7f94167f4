use Rattle.std.proofs.Common.{◌≡◌}
use Rattle.toml.specs.View.{items_view}
use Rattle.pylock_readers.specs.Entry.Fields.{read_each}
use Rattle.pylock_readers.proofs.PrefixLemmas.{after_prefix}
use Rattle.pylock_readers.proofs.field.read_list.Given as goal

-- what was read so far, and what the values are that are left
abbrev pub invariant-loop-value : goal.invariant-loop-value
invariant-loop-value g l =
    after_prefix l.list.items (read_each g.T.FromValue.form (items_view l.value-iterator.rest.items))
    ≡ read_each g.T.FromValue.form (items_view l.initial.value-iterator.rest.items)
