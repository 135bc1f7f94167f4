use Rattle.std.proofs.Common.{◌≡◌, ◌++◌, drop, map, option_map}
use Rattle.pylock_memory.specs.Parts.{cut_by}
use Rattle.pylock_memory.proofs.parts.cut_parts.Given as goal

-- the parts that are cut, and behind them those of what is left, are all parts
abbrev pub invariant-loop-length : goal.invariant-loop-length
invariant-loop-length l =
    option_map (λ others. map (λ part. part.now) l.parts.items ++ others) (cut_by (drop l.length-index l.lengths) l.left)
    ≡ cut_by l.lengths l.bytes
