-- What is printed of the findings in a lock, and the status of a list.
use Rattle.std.specs.Prelude.{ℕ, List, [], ◌∷◌}
use Rattle.pylock_audit.specs.Document.{findings_rows}
use Rattle.pylock_audit.specs.Finding.{LockFindingValue}
use Rattle.pylock_command.specs.declared.form.Form.{Form}
use Rattle.pylock_command.specs.declared.form.Form.TheVariants.{Lines, Json}
use Rattle.pylock_run.specs.Report.{Report}
use Rattle.pylock_program.specs.Text.Audit.{findings_text}
use Rattle.pylock_program.specs.Text.Json.{json_text}

abbrev pub findings_shown : Form → List LockFindingValue → List ℕ
findings_shown Lines found = findings_text found
findings_shown Json found = json_text (findings_rows found)

-- 0 where there are none
abbrev pub list_status : {X : Type 0} → List X → ℕ
list_status [] = 0
list_status (one ∷ others) = 1

abbrev pub findings_report : Form → List LockFindingValue → Report
findings_report form found =
    record { text = findings_shown form found; status = list_status found }
