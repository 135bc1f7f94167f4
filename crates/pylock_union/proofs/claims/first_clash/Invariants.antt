use Rattle.std.proofs.Common.{◌≡◌, [], drop, take}
use Rattle.pylock_union.specs.Inner.{IsTable, all_claims}
use Rattle.pylock_union.specs.Union.{first_clash}
use Rattle.pylock_union.proofs.claims.first_clash.Given as goal

-- what is left, behind those so far, has the first clash; the table has those so far
abbrev pub invariant-loop-claim : goal.invariant-loop-claim
invariant-loop-claim l =
    (first_clash (all_claims (take l.claim-index l.claims)) (all_claims (drop l.claim-index l.claims)) ≡ first_clash [] (all_claims l.claims))
    × IsTable l.table (all_claims (take l.claim-index l.claims))
