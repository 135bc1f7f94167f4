use Rattle.std.proofs.Common.{◌≡◌, map, take}
use Rattle.pylock_core.specs.Session.Picks.{lent_named}
use Rattle.pylock_audit.specs.Source.{over_sources}
use Rattle.pylock_audit.proofs.source.over_sources.Given as goal

abbrev pub invariant-loop-named : goal.invariant-loop-named
invariant-loop-named l = l.list.items ≡ over_sources l.kind (map lent_named (take l.named-index l.sources))
