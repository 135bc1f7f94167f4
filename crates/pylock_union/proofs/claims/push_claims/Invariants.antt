use Rattle.std.proofs.Common.{◌≡◌, ◌++◌, map, take}
use Rattle.pylock_readers.specs.Text.{text_pairs}
use Rattle.pylock_union.specs.Inner.{all_claims}
use Rattle.pylock_union.specs.Listed.{lent}
use Rattle.pylock_union.specs.Union.{claim_of}
use Rattle.pylock_union.proofs.claims.push_claims.Given as goal

-- the claims of the hashes so far
abbrev pub invariant-loop-algorithm : goal.invariant-loop-algorithm
invariant-loop-algorithm l =
    all_claims l.claims.items ≡ all_claims l.fn.claims.items ++ map (claim_of (lent l.source)) (text_pairs (take l.algorithm-index l.algorithm-items))
