use Rattle.std.proofs.Common.{◌≡◌, map, take}
use Rattle.pylock_core.specs.Session.Picks.{lent_source}
use Rattle.pylock_diff.specs.Sources.{lone_sources}
use Rattle.pylock_diff.proofs.sources.lone_sources.Given as goal

abbrev pub invariant-loop-item : goal.invariant-loop-item
invariant-loop-item l = map lent_source l.list.items ≡ lone_sources (take l.item-index l.items) l.fn.others
