use Rattle.pylock_program.proofs.program.perform.Goals as goal

pub returns-in-Show : goal.returns-in-Show
returns-in-Show g c = rw c.in-Show.is c.answer_question.ensures

pub returns-in-Select : goal.returns-in-Select
returns-in-Select g c = rw c.in-Select.is c.run_select.ensures

pub returns-in-Files : goal.returns-in-Files
returns-in-Files g c = rw c.in-Files.is c.list_files.ensures

pub returns-in-Audit : goal.returns-in-Audit
returns-in-Audit g c = rw c.in-Audit.is c.audit_lock.ensures

pub returns-in-Diff : goal.returns-in-Diff
returns-in-Diff g c = rw c.in-Diff.is c.compare.ensures

pub returns-in-Marker : goal.returns-in-Marker
returns-in-Marker g c = rw c.in-Marker.is c.judge_marker.ensures

pub returns-in-Matrix : goal.returns-in-Matrix
returns-in-Matrix g c = rw c.in-Matrix.is c.show_matrix.ensures

pub returns-in-Status : goal.returns-in-Status
returns-in-Status g c = rw c.in-Status.is c.show_status.ensures

pub returns-in-Check : goal.returns-in-Check
returns-in-Check g c = rw c.in-Check.is c.check_project.ensures

pub returns-in-Summary : goal.returns-in-Summary
returns-in-Summary g c = rw c.in-Summary.is c.show_summary.ensures

pub returns-in-CheckMatrix : goal.returns-in-CheckMatrix
returns-in-CheckMatrix g c = rw c.in-CheckMatrix.is c.check_targets.ensures
