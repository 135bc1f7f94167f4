use Rattle.std.proofs.Common.{◌≡◌, ◌++◌, drop}
use Rattle.toml.specs.View.{items_view}
use Rattle.pylock_metadata.specs.Metadata.{entries_of}
use Rattle.pylock_metadata.specs.View.{entries_view}
use Rattle.pylock_metadata.proofs.entry.EntryMetadata.each.Given as goal

-- what is said so far, and what the values that are left say
abbrev pub invariant-loop-value : goal.invariant-loop-value
invariant-loop-value l =
    entries_view l.entries.items ++ entries_of (items_view (drop l.value-index l.values)) ≡ entries_of (items_view l.values)
