use Rattle.std.proofs.Common.{◌≡◌, drop}
use Rattle.pymark_core.specs.Variables.{variables}
use Rattle.pylock_core.specs.Session.State.{in_environment}
use Rattle.pylock_matrix.specs.Inner.Moving.{with_texts_of}
use Rattle.pylock_matrix.specs.Moving.{unmoved}
use Rattle.pylock_matrix.proofs.moving.set_variables.Given as goal

-- the variables that are left get their texts, and nothing but variables changed
abbrev pub invariant-loop-variable : goal.invariant-loop-variable
invariant-loop-variable l = record {
  set : in_environment (with_texts_of l.wanted (drop l.variable-index variables) l.session.state.environment) l.session.state
      ≡ in_environment (with_texts_of l.wanted variables l.fn.session.state.environment) l.fn.session.state;
  stays : unmoved l.session.state ≡ unmoved l.fn.session.state;
}
