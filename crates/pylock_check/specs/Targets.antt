-- What differs between a project and what a lock plans on each of many targets, and how it is
-- shown: as lines, and as a document.
use Rattle.std.specs.Prelude.{ℕ, ◌++◌, codes, decimal, length, List, [], ◌∷◌, map, Some}
use Rattle.std.specs.List.{concat, flat_map}
use Rattle.serde_json.specs.Data.{Data}
use Rattle.pylock_json.specs.Json.{Row, list_of, object_of}
use Rattle.pylock_run.specs.Text.Field.{fields_text}
use Rattle.pylock_core.specs.Session.State.{State}
use Rattle.pylock_core.specs.Session.Steps.{answer}
use Rattle.pylock_core.specs.declared.answer.Answer.{Answer}
use Rattle.pylock_core.specs.declared.answer.Answer.TheVariants as answer
use Rattle.pylock_core.specs.declared.answer.FaultCode.{FaultCode}
use Rattle.pylock_matrix.specs.Cell.{CellValue}
use Rattle.pylock_matrix.specs.Document.{cell_members, fault_members}
use Rattle.pylock_matrix.specs.Moving.{placed}
use Rattle.pylock_matrix.specs.Text.{cell_text, fault_fields}
use Rattle.pylock_matrix.specs.declared.setting.Setting.{Setting}
use Rattle.pylock_check.specs.Judging.{differences}
use Rattle.pylock_check.specs.Project.{ProjectValue}
use Rattle.pylock_check.specs.Written.{difference_line, difference_rows}
use Rattle.pylock_check.specs.declared.difference.Difference.{Difference}
use Rattle.pylock_check.specs.declared.targets.TargetCheck.{TargetCheck}
use Rattle.pylock_check.specs.declared.targets.TargetOutcome.{TargetOutcome}
use Rattle.pylock_check.specs.declared.targets.TargetOutcome.TheVariants.{Differences, Fault}

-- ---- what differs

-- what differs from the plan that is answered in a state, or the fault
abbrev pub outcome_by : State → ProjectValue → Answer → TargetOutcome
outcome_by state project (answer.Plan picks) = Differences (differences state picks project)
outcome_by state project (answer.Fault id code) = Fault id code

abbrev pub outcome_in : State → ProjectValue → TargetOutcome
outcome_in state project = outcome_by state project (answer state)

-- what differs on a target: in the state that is placed there
abbrev pub check_on : List Setting → State → ProjectValue → CellValue → TargetCheck
check_on settings state project cell = record {
  cell = cell;
  outcome = outcome_in (placed cell.target settings state) project;
}

-- ---- lines

-- the line of a difference that the head has, whatever the target: there are no words of one
abbrev pub head_line : Difference → List ℕ
head_line found = codes "-\t-\t" ++ difference_line found

-- the line of a difference on a target, behind the words of the target
abbrev pub line_on : CellValue → Difference → List ℕ
line_on cell found = cell_text cell ++ 9 ∷ difference_line found

-- the line of a fault on a target, as a row of a matrix has it
abbrev pub fault_line : CellValue → ℕ → FaultCode → List ℕ
fault_line cell id code = cell_text cell ++ fields_text (fault_fields id code) ++ codes "\n"

-- the lines of a target: one for each difference, or that of the fault
abbrev pub outcome_lines : CellValue → TargetOutcome → List (List ℕ)
outcome_lines cell (Differences found) = map (line_on cell) found
outcome_lines cell (Fault id code) = fault_line cell id code ∷ []

abbrev pub check_lines : TargetCheck → List (List ℕ)
check_lines check = outcome_lines check.cell check.outcome

-- all lines: those of the head, and then those of each target
abbrev pub target_lines : (of_head : List Difference) → List TargetCheck → List (List ℕ)
target_lines of_head checks = map head_line of_head ++ flat_map check_lines checks

-- `differences K` and K lines
abbrev pub lines_text : List (List ℕ) → List ℕ
lines_text lines = codes "differences " ++ decimal (length lines) ++ codes "\n" ++ concat lines

abbrev pub target_checks_text : (of_head : List Difference) → List TargetCheck → List ℕ
target_checks_text of_head checks = lines_text (target_lines of_head checks)

-- ---- the document

-- an object of a difference, behind the words of its target
abbrev pub difference_on : CellValue → Difference → Data
difference_on cell found = object_of (cell_members cell ++ difference_rows found)

-- the objects of a target: one for each difference, or one of the fault
abbrev pub outcome_items : CellValue → TargetOutcome → List Data
outcome_items cell (Differences found) = map (difference_on cell) found
outcome_items cell (Fault id code) = object_of (cell_members cell ++ fault_members id code) ∷ []

abbrev pub check_items : TargetCheck → List Data
check_items check = outcome_items check.cell check.outcome

-- all objects: those of the head, which have no words of a target, and then those of each target
abbrev pub target_items : (of_head : List Difference) → List TargetCheck → List Data
target_items of_head checks =
    map (λ found. object_of (difference_rows found)) of_head ++ flat_map check_items checks

abbrev pub target_checks_rows : (of_head : List Difference) → List TargetCheck → List Row
target_checks_rows of_head checks =
    (codes "differences", Some (list_of (target_items of_head checks))) ∷ []
