use Rattle.std.proofs.Common.{◌≡◌, ◌+◌, ◌++◌, drop}
use Rattle.pylock_exports.specs.Inner.{all_lent}
use Rattle.pylock_exports.specs.Listed.{sources_from}
use Rattle.pylock_exports.proofs.listed.entry_sources.Given as goal

-- the sources of the entries that are left are still to be added
abbrev pub invariant-loop-place : goal.invariant-loop-place
invariant-loop-place l = all_lent l.list.items ++ sources_from (l.place + 1) (drop l.place l.entries) ≡ sources_from 1 l.entries
