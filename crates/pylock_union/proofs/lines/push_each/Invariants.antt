use Rattle.std.proofs.Common.{◌≡◌, ◌++◌, flat_map, take}
use Rattle.pylock_union.specs.Listed.{all_lent}
use Rattle.pylock_union.specs.Text.{listed_line}
use Rattle.pylock_union.proofs.lines.push_each.Given as goal

-- the lines so far
abbrev pub invariant-loop-source : goal.invariant-loop-source
invariant-loop-source l = l.out.items ≡ l.fn.out.items ++ flat_map (listed_line l.tells_lock) (all_lent (take l.source-index l.list))
