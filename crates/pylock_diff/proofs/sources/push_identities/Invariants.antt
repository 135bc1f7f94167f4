use Rattle.std.proofs.Common.{◌≡◌, ◌++◌, flat_map, map, take}
use Rattle.pylock_core.specs.Session.Picks.{lent_source}
use Rattle.pylock_diff.specs.Sources.{identity}
use Rattle.pylock_diff.proofs.sources.push_identities.Given as goal

abbrev pub invariant-loop-source : goal.invariant-loop-source
invariant-loop-source l = l.key ≡ l.fn.key ++ flat_map identity (map lent_source (take l.source-index l.sources))
