use Rattle.std.proofs.Common.{take}
use Rattle.pylock_diff.specs.Inner.Others.{HasKeys, key_by}
use Rattle.pylock_diff.proofs.sources.keys_of.Given as goal

abbrev pub invariant-loop-item : goal.invariant-loop-item
invariant-loop-item l = HasKeys (key_by l.with_sources) l.set (take l.item-index l.items)
