use Rattle.std.proofs.Common.{◌≡◌, map}
use Rattle.std.specs.List.{list_any}
use Rattle.pylock_core.specs.declared.answer.Pick.{Pick}
use Rattle.pylock_matrix.specs.Files.{answers_on, takes}
use Rattle.pylock_matrix.specs.Inner.Taken.{is_taken}
use Rattle.pylock_matrix.specs.Moving.{HasVariables, unmoved}
use Rattle.pylock_matrix.specs.Row.{row_of}
use Rattle.pylock_matrix.proofs.files.rows_and_taken.Given as goal

-- the rows so far, and what is taken so far; the session has a place for each variable, and nothing but those and tags changed
abbrev pub invariant-loop-cell : goal.invariant-loop-cell
invariant-loop-cell l = record {
  rows : HasVariables l.fn.session.state → l.rows.items ≡ map (row_of l.settings l.fn.session.state) l.yielded;
  taken : HasVariables l.fn.session.state → (pick : Pick)
      → is_taken l.taken pick ≡ list_any (λ answer. takes answer pick) (answers_on l.settings l.fn.session.state l.yielded);
  has : HasVariables l.fn.session.state → HasVariables l.session.state;
  stays : unmoved l.session.state ≡ unmoved l.fn.session.state;
}
