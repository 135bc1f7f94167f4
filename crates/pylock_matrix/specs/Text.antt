-- The line of a row.
use Rattle.std.specs.Prelude.{ℕ, List, [], ◌∷◌, ◌++◌, codes, decimal, map}
use Rattle.std.specs.List.{flat_map, join_with_byte}
use Rattle.pylock_core.specs.Words.{fault_word}
use Rattle.pylock_core.specs.declared.answer.FaultCode.{FaultCode}
use Rattle.pylock_run.specs.Text.Field.{line_of}
use Rattle.pylock_matrix.specs.Cell.{CellValue}
use Rattle.pylock_matrix.specs.declared.outcome.Outcome.{Outcome}
use Rattle.pylock_matrix.specs.declared.outcome.Outcome.TheVariants.{Plan, Fault}
use Rattle.pylock_matrix.specs.declared.row.Row.{Row}

-- numbers with `,` between them, or `-` where there is none
abbrev pub numbers_text : List ℕ → List ℕ
numbers_text [] = codes "-"
numbers_text (number ∷ numbers) = join_with_byte 44 (map decimal (number ∷ numbers))

-- the words of a target
abbrev pub cell_text : CellValue → List ℕ
cell_text cell = cell.python ++ 9 ∷ cell.platform

-- the fields of a fault: the number of its entry, 0 for the head, and why
abbrev pub fault_fields : ℕ → FaultCode → List (List ℕ)
fault_fields id code = codes "fault" ∷ decimal id ∷ fault_word code ∷ []

-- the fields of an outcome: how many entries the plan has and which are built, or the fault
abbrev pub outcome_fields : Outcome → List (List ℕ)
outcome_fields (Plan count built) = codes "plan" ∷ decimal count ∷ numbers_text built ∷ []
outcome_fields (Fault id code) = fault_fields id code

-- the line of a row: the words of its target, and its outcome
abbrev pub row_text : Row → List ℕ
row_text row = line_of row.cell.python (row.cell.platform ∷ outcome_fields row.outcome)

abbrev pub rows_text : List Row → List ℕ
rows_text rows = flat_map row_text rows
