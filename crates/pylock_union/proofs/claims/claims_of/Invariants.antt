use Rattle.std.proofs.Common.{◌≡◌, flat_map, take}
use Rattle.pylock_union.specs.Inner.{all_claims}
use Rattle.pylock_union.specs.Listed.{all_lent}
use Rattle.pylock_union.specs.Union.{claims_of}
use Rattle.pylock_union.proofs.claims.claims_of.Given as goal

-- the claims of the sources so far
abbrev pub invariant-loop-source : goal.invariant-loop-source
invariant-loop-source l = all_claims l.claims.items ≡ flat_map claims_of (all_lent (take l.source-index l.list))
