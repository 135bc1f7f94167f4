use Rattle.std.proofs.Common.{◌≡◌, drop}
use Rattle.pylock_check.specs.Groups.{known_includes}
use Rattle.pylock_check.proofs.groups.require_known_includes.Given as goal

-- the includes so far are known
abbrev pub invariant-loop-include : goal.invariant-loop-include
invariant-loop-include l = known_includes l.groups (drop l.include-index l.includes) ≡ known_includes l.groups l.includes
