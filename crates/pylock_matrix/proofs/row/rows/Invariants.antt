use Rattle.std.proofs.Common.{◌≡◌, map}
use Rattle.pylock_matrix.specs.Moving.{HasVariables, unmoved}
use Rattle.pylock_matrix.specs.Row.{row_of}
use Rattle.pylock_matrix.proofs.row.rows.Given as goal

-- the rows so far; the session has a place for each variable, and nothing but those and tags changed
abbrev pub invariant-loop-cell : goal.invariant-loop-cell
invariant-loop-cell l = record {
  rows : HasVariables l.fn.session.state → l.rows.items ≡ map (row_of l.settings l.fn.session.state) l.yielded;
  has : HasVariables l.fn.session.state → HasVariables l.session.state;
  stays : unmoved l.session.state ≡ unmoved l.fn.session.state;
}
