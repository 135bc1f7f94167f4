use Rattle.std.proofs.Common.{◌≡◌, drop}
use Rattle.pylock_check.specs.Groups.{known_in}
use Rattle.pylock_check.proofs.groups.require_known.Given as goal

-- the groups so far include what is known
abbrev pub invariant-loop-group : goal.invariant-loop-group
invariant-loop-group l = known_in l.groups (drop l.group-index l.groups) ≡ known_in l.groups l.groups
