use Rattle.std.proofs.Common.{◌≡◌, drop, map, string_bytes}
use Rattle.pylock_core.specs.Session.State.{asked_environment, with_groups}
use Rattle.pylock_core.proofs.session.parts.asked_environment.Given as goal

-- the groups that are left make the environment whole
abbrev pub invariant-loop-group : goal.invariant-loop-group
invariant-loop-group l = with_groups (map string_bytes (drop l.group-index l.groups)) l.environment ≡ asked_environment (map string_bytes l.groups) l.fn.environment
