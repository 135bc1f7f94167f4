-- The document of a matrix: an object for each row.
use Rattle.std.specs.Prelude.{ℕ, List, [], ◌∷◌, ◌++◌, codes, map, Some}
use Rattle.serde_json.specs.Data.{Data, number, unsigned}
use Rattle.pylock_core.specs.Words.{fault_word}
use Rattle.pylock_core.specs.declared.answer.FaultCode.{FaultCode}
use Rattle.pylock_json.specs.Json.{Row as Member, list_of, numbered, object_of, there}
use Rattle.pylock_matrix.specs.Cell.{CellValue}
use Rattle.pylock_matrix.specs.declared.outcome.Outcome.{Outcome}
use Rattle.pylock_matrix.specs.declared.outcome.Outcome.TheVariants.{Plan, Fault}
use Rattle.pylock_matrix.specs.declared.row.Row.{Row}

abbrev pub numbers_data : List ℕ → Data
numbers_data numbers = list_of (map (λ n. number (unsigned n)) numbers)

abbrev pub fault_data : ℕ → FaultCode → Data
fault_data id code =
    object_of ((codes "id", numbered id) ∷ (codes "code", there (fault_word code)) ∷ [])

-- the fault, with the number of its entry, 0 for the head
abbrev pub fault_members : ℕ → FaultCode → List Member
fault_members id code = (codes "fault", Some (fault_data id code)) ∷ []

-- the words of a target
abbrev pub cell_members : CellValue → List Member
cell_members cell =
    (codes "python", there cell.python) ∷ (codes "platform", there cell.platform) ∷ []

-- how many entries the plan has and which are built, or the fault
abbrev pub outcome_members : Outcome → List Member
outcome_members (Plan count built) =
    (codes "plan", numbered count) ∷ (codes "built", Some (numbers_data built)) ∷ []
outcome_members (Fault id code) = fault_members id code

-- a row: the words of its target, and its outcome
abbrev pub row_data : Row → Data
row_data row = object_of (cell_members row.cell ++ outcome_members row.outcome)

-- the members of the document
abbrev pub matrix_members : List Row → List Member
matrix_members rows = (codes "matrix", Some (list_of (map row_data rows))) ∷ []
