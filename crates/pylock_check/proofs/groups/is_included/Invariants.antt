use Rattle.std.proofs.Common.{◌≡◌, drop, map}
use Rattle.std.specs.List.{list_any}
use Rattle.pylock_check.specs.Groups.{leads_to, lent_marked}
use Rattle.pylock_check.proofs.groups.is_included.Given as goal

-- none so far leads to it
abbrev pub invariant-loop-marked : goal.invariant-loop-marked
invariant-loop-marked l = list_any (leads_to l.name) (map lent_marked (drop l.marked-index l.found)) ≡ list_any (leads_to l.name) (map lent_marked l.found)
