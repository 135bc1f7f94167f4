use Rattle.std.proofs.Common.{◌≡◌, drop, map}
use Rattle.std.specs.List.{list_any}
use Rattle.pylock_check.specs.Groups.{is_found, lent_marked}
use Rattle.pylock_check.proofs.groups.has_found.Given as goal

-- none so far is it
abbrev pub invariant-loop-marked : goal.invariant-loop-marked
invariant-loop-marked l = list_any (is_found l.name) (map lent_marked (drop l.marked-index l.found)) ≡ list_any (is_found l.name) (map lent_marked l.found)
