use Rattle.std.proofs.Common.{◌≡◌, drop}
use Rattle.pylock_matrix.specs.Cell.{before, cells_with}
use Rattle.pylock_matrix.proofs.cell.push_cells.Given as goal

-- the cells of the platforms that are left come behind those so far
abbrev pub invariant-loop-platform : goal.invariant-loop-platform
invariant-loop-platform l =
    before l.cells.items (cells_with l.python (drop l.platform-index l.platforms)) ≡ before l.fn.cells.items (cells_with l.python l.platforms)
