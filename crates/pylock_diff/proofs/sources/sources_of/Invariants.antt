use Rattle.std.proofs.Common.{take}
use Rattle.pylock_diff.specs.Inner.Others.{HasSources}
use Rattle.pylock_diff.proofs.sources.sources_of.Given as goal

abbrev pub invariant-loop-item : goal.invariant-loop-item
invariant-loop-item l = HasSources l.table (take l.item-index l.items)
