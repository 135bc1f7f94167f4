use Rattle.std.proofs.Common.{◌≡◌}
use Rattle.toml.specs.View.{members_view, table_view}
use Rattle.pylock_readers.specs.Entry.Sources.{pairs_of}
use Rattle.pylock_readers.specs.Text.{text_pairs}
use Rattle.pylock_readers.proofs.PrefixLemmas.{after_prefix}
use Rattle.pylock_readers.proofs.entry.hashes.pairs.Given as goal

-- the pairs so far, and those of the members that are left
abbrev pub invariant-loop-algorithm : goal.invariant-loop-algorithm
invariant-loop-algorithm l =
    after_prefix (text_pairs l.pairs.items) (pairs_of (members_view l.algorithm-iterator))
    ≡ pairs_of (table_view l.fn.table)
