use Rattle.std.proofs.Common.{◌≡◌, map, take}
use Rattle.std.specs.List.{flat_map}
use Rattle.pylock_core.specs.Session.Picks.{source_hashes}
use Rattle.pylock_diff.specs.Inner.Lent.{hash_row, lent_sources}
use Rattle.pylock_diff.proofs.hashes.hashes_of.Given as goal

abbrev pub invariant-loop-source : goal.invariant-loop-source
invariant-loop-source l = map hash_row l.rows.items ≡ flat_map source_hashes (lent_sources (take l.source-index l.sources))
