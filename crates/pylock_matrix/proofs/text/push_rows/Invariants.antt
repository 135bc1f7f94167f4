use Rattle.std.proofs.Common.{◌≡◌, ◌++◌, take}
use Rattle.pylock_matrix.specs.Text.{rows_text}
use Rattle.pylock_matrix.proofs.text.push_rows.Given as goal

-- the lines so far
abbrev pub invariant-loop-row : goal.invariant-loop-row
invariant-loop-row l = l.out.items ≡ l.fn.out.items ++ rows_text (take l.row-index l.rows)
