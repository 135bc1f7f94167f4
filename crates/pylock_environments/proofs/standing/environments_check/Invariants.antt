use Rattle.std.proofs.Common.{◌≡◌, drop}
use Rattle.pylock_core.specs.Session.Steps.{first_true}
use Rattle.pylock_environments.proofs.standing.environments_check.Given as goal

-- the markers that are left decide
abbrev pub invariant-loop-marker : goal.invariant-loop-marker
invariant-loop-marker l = first_true (drop l.marker-index l.markers) l.environment ≡ first_true l.markers l.environment
