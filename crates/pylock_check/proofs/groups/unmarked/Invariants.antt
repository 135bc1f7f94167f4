use Rattle.std.proofs.Common.{◌≡◌, map, take}
use Rattle.pylock_check.specs.Groups.{lent_marked, unmarked}
use Rattle.pylock_check.proofs.groups.unmarked.Given as goal

-- the groups so far are there, without a mark
abbrev pub invariant-loop-group : goal.invariant-loop-group
invariant-loop-group l = map lent_marked l.found.items ≡ map unmarked (take l.group-index l.groups)
