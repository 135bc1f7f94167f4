use Rattle.std.proofs.Common.{◌≡◌, map}
use Rattle.pylock_matrix.specs.Moving.{HasVariables, unmoved}
use Rattle.pylock_check.specs.Targets.{check_on}
use Rattle.pylock_check.proofs.targets.target_checks.Given as goal

-- the targets so far; the session has a place for each variable, and nothing but those and tags changed
abbrev pub invariant-loop-cell : goal.invariant-loop-cell
invariant-loop-cell l = record {
  checks : HasVariables l.fn.session.state → l.checks.items ≡ map (check_on l.settings l.fn.session.state l.project) l.yielded;
  has : HasVariables l.fn.session.state → HasVariables l.session.state;
  stays : unmoved l.session.state ≡ unmoved l.fn.session.state;
}
