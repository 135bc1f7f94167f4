use Rattle.std.proofs.Common.{◌≡◌, map, string_bytes}
use Rattle.toml.specs.View.{items_view}
use Rattle.pylock_readers.specs.Entry.Fields.{read_each, name_of}
use Rattle.pylock_readers.proofs.PrefixLemmas.{after_prefix}
use Rattle.pylock_readers.proofs.lock.head.read_names.Given as goal

-- the names so far, and those of the values that are left
abbrev pub invariant-loop-value : goal.invariant-loop-value
invariant-loop-value l =
    after_prefix (map string_bytes l.names.items) (read_each name_of (items_view l.value-iterator.rest.items))
    ≡ read_each name_of (items_view l.fn.values.items)
