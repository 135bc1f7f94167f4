use Rattle.std.proofs.Common.{◌≡◌, map, take}
use Rattle.pylock_exports.specs.Base.{moved}
use Rattle.pylock_exports.specs.Inner.{all_lent, lent_moved}
use Rattle.pylock_exports.proofs.base.moved_sources.Given as goal

-- those so far are on the base
abbrev pub invariant-loop-listed : goal.invariant-loop-listed
invariant-loop-listed l = map lent_moved l.sources.items ≡ map (moved l.base) (all_lent (take l.listed-index l.list))
