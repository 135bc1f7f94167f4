-- What `plan` prints as a bill of materials. Where there is a fault, standard output stays empty.
use Rattle.std.specs.Prelude.{ℕ, List}
use Rattle.pylock_bill.specs.CycloneDx.{cyclonedx_rows}
use Rattle.pylock_bill.specs.Namespace.{namespace_of}
use Rattle.pylock_bill.specs.Spdx.{spdx_rows}
use Rattle.pylock_command.specs.declared.form.BillFormat.{BillFormat}
use Rattle.pylock_command.specs.declared.form.BillFormat.TheVariants.{CycloneDx, Spdx}
use Rattle.pylock_core.specs.Session.State.{State}
use Rattle.pylock_core.specs.declared.answer.Answer.{Answer}
use Rattle.pylock_core.specs.declared.answer.Answer.TheVariants.{Plan, Fault}
use Rattle.pylock_core.specs.declared.answer.Pick.{Pick}
use Rattle.pylock_documents.specs.Written.{object_text}
use Rattle.pylock_json.specs.Json.{Row, members_of}
use Rattle.pylock_metadata.specs.Dependencies.{dependencies_of}
use Rattle.pylock_run.specs.Report.{Report}
use Rattle.pylock_run.specs.Text.Plan.{answer_text}
use Rattle.pylock_program.specs.Refusal.{silence}

-- the members of the document, with what the lock says of dependencies; the namespace is told from
-- the whole lock
abbrev pub bill_rows : BillFormat → List ℕ → State → List Pick → List Row
bill_rows CycloneDx lock state picks =
    cyclonedx_rows state picks (dependencies_of lock state picks)
bill_rows (Spdx created) lock state picks =
    spdx_rows state picks (dependencies_of lock state picks) created.now
    (namespace_of created.now (answer_text state (Plan picks)) lock)

-- the document of a plan
abbrev pub answer_billed : BillFormat → List ℕ → State → Answer → Report
answer_billed format lock state (Plan picks) = record {
  text = object_text (members_of (bill_rows format lock state picks));
  status = 0;
}
answer_billed format lock state (Fault id code) = silence 1
