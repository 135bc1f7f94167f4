use Rattle.std.proofs.Common.{◌≡◌, drop}
use Rattle.std.specs.List.{list_all}
use Rattle.pylock_program.specs.Matrix.{is_met}
use Rattle.pylock_program.proofs.matrix.rows_status.Given as goal

-- the rows that are left decide
abbrev pub invariant-loop-row : goal.invariant-loop-row
invariant-loop-row l =
    list_all (λ row. is_met l.no_build row.outcome) l.rows ≡ list_all (λ row. is_met l.no_build row.outcome) (drop l.row-index l.rows)
