use Rattle.std.proofs.Common.{◌≡◌}
use Rattle.pylock_core.specs.Inner.KeptEnvironment.{changed_by}
use Rattle.pylock_core.proofs.session.kept_environment.after_changes.Given as goal

-- the changes that are left lead on from the environment so far
abbrev pub invariant-loop-change : goal.invariant-loop-change
invariant-loop-change l = changed_by l.fn.changes.items l.fn.environment ≡ changed_by l.change-iterator.rest.items l.environment
