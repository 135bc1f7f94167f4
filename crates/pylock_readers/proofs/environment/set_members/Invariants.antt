use Rattle.std.proofs.Common.{◌≡◌, drop}
use Rattle.serde_json.specs.View.{members_view}
use Rattle.pylock_readers.specs.Environment.{with_members}
use Rattle.pylock_readers.proofs.environment.set_members.Given as goal

-- the variables that are left give the rest
abbrev pub invariant-loop-variable : goal.invariant-loop-variable
invariant-loop-variable l =
    with_members (drop l.variable-index l.variables) (members_view l.members.entries) l.environment
    ≡ with_members l.variables (members_view l.members.entries) l.fn.environment
