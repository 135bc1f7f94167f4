use Rattle.std.proofs.Common.{◌≡◌, drop, map}
use Rattle.pylock_check.specs.Groups.{all_end, lent_marked}
use Rattle.pylock_check.proofs.groups.require_all_end.Given as goal

-- the groups so far end
abbrev pub invariant-loop-marked : goal.invariant-loop-marked
invariant-loop-marked l = all_end (map lent_marked (drop l.marked-index l.found)) ≡ all_end (map lent_marked l.found)
