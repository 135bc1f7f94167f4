use Rattle.std.proofs.Common.{◌≡◌, drop}
use Rattle.pylock_matrix.specs.Cell.{before, cells_of}
use Rattle.pylock_matrix.proofs.cell.cells.Given as goal

-- the cells of the Pythons that are left come behind those so far
abbrev pub invariant-loop-python : goal.invariant-loop-python
invariant-loop-python l = before l.cells.items (cells_of (drop l.python-index l.pythons) l.platforms) ≡ cells_of l.pythons l.platforms
