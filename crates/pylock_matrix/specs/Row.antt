-- The rows of a matrix: what becomes of a lock on each target.
use Rattle.std.specs.Prelude.{List}
use Rattle.pylock_core.specs.Session.State.{State}
use Rattle.pylock_core.specs.Session.Steps.{answer}
use Rattle.pylock_matrix.specs.Cell.{CellValue}
use Rattle.pylock_matrix.specs.Moving.{placed}
use Rattle.pylock_matrix.specs.Outcome.{outcome_of}
use Rattle.pylock_matrix.specs.declared.row.Row.{Row}
use Rattle.pylock_matrix.specs.declared.setting.Setting.{Setting}

-- the row of a target: what becomes of the state there
abbrev pub row_of : List Setting → State → CellValue → Row
row_of settings state cell = record {
  cell = cell;
  outcome = outcome_of (answer (placed cell.target settings state));
}
