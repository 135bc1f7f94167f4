-- What is printed of a project beside the targets.
use Rattle.std.specs.Prelude.{ℕ, List, Result}
use Rattle.pylock_check.specs.Head.{AreHeadDifferences}
use Rattle.pylock_check.specs.declared.difference.Difference.{Difference}
use Rattle.pylock_command.specs.declared.form.Form.{Form}
use Rattle.pylock_command.specs.declared.task.MatrixQuestion.{MatrixQuestion}
use Rattle.pylock_run.specs.Report.Print.{Prints}
use Rattle.pylock_run.specs.Stream.{SinkValue}
use Rattle.pylock_run.specs.declared.report.fault.RunFault.{RunFault}
use Rattle.pylock_program.specs.CheckMatrix.{Begun, checks_of, checks_report}

-- there are differences from the head, with which what differs on each target is printed
pub record PrintsChecks (form : Form) (asked : MatrixQuestion) (begun : Begun)
    (sink sink' : SinkValue) (result : Result ℕ RunFault) : Type 0 where
  pub of_head : List Difference
  pub are_of_head : AreHeadDifferences begun.1 begun.0.0.head of_head
  pub prints : Prints (checks_report form of_head (checks_of asked begun)) sink sink' result
