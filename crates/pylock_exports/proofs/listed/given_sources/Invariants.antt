use Rattle.std.proofs.Common.{◌≡◌, take}
use Rattle.pylock_exports.specs.Given.{given_sources}
use Rattle.pylock_exports.specs.Inner.{all_lent}
use Rattle.pylock_exports.proofs.listed.given_sources.Given as goal

-- the sources so far are in the list
abbrev pub invariant-loop-source : goal.invariant-loop-source
invariant-loop-source l = all_lent l.list.items ≡ given_sources (take l.source-index l.given)
