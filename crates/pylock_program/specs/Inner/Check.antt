-- What is printed of a project beside a session.
use Rattle.std.specs.Prelude.{ℕ, List, Result}
use Rattle.pylock_check.specs.Head.{AreHeadDifferences}
use Rattle.pylock_check.specs.Project.{ProjectValue}
use Rattle.pylock_check.specs.declared.difference.Difference.{Difference}
use Rattle.pylock_command.specs.declared.task.CheckQuestion.{CheckQuestion}
use Rattle.pylock_core.specs.Session.State.{State}
use Rattle.pylock_core.specs.Session.Steps.{answer}
use Rattle.pylock_run.specs.Report.Print.{Prints}
use Rattle.pylock_run.specs.Stream.{SinkValue}
use Rattle.pylock_run.specs.declared.report.fault.RunFault.{RunFault}
use Rattle.pylock_program.specs.Check.{answer_check}

-- there are differences from the head, with which the answer is printed
pub record PrintsBeside (asked : CheckQuestion) (project : ProjectValue) (state : State)
    (sink sink' : SinkValue) (result : Result ℕ RunFault) : Type 0 where
  pub of_head : List Difference
  pub are_of_head : AreHeadDifferences project state.head of_head
  pub prints : Prints (answer_check asked of_head project state (answer state)) sink sink' result
