use Rattle.std.proofs.Common.{◌≡◌, map, take}
use Rattle.serde_json.specs.View.{view as data_of}
use Rattle.pylock_matrix.specs.Document.{row_data}
use Rattle.pylock_matrix.proofs.document.rows_list.Given as goal

-- the rows so far are in the list
abbrev pub invariant-loop-row : goal.invariant-loop-row
invariant-loop-row l = map data_of l.list ≡ map row_data (take l.row-index l.rows)
