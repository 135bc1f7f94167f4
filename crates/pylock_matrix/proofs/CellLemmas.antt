-- Cells before others.
use Rattle.std.proofs.Common.{◌≡◌, ◌++◌, List, [], Result, Ok, Err, ap, append_assoc, refl, sym}
use Rattle.std.proofs.lemmas.List.{append-nil}
use Rattle.pylock_matrix.specs.Cell.{CellValue, before}
use Rattle.pylock_matrix.specs.declared.cell.CellError.{CellError}

pub before_both : (cells more : List CellValue) (others : Result (List CellValue) CellError)
    → before cells (before more others) ≡ before (cells ++ more) others
before_both cells more (Ok others) = ap Ok (sym (append_assoc cells more others))
before_both cells more (Err error) = refl

pub before_none : (cells : List CellValue) → before cells (Ok []) ≡ Ok cells
before_none cells = ap Ok (append-nil cells)
