-- What printing a report does, in terms of the bytes that the writer took; and a report that is
-- pushed.
use Rattle.std.specs.Prelude.{◌≡◌, ℕ, ◌++◌, List, Result, Ok, Err, IfOk, IfErr, OnOk, OnErr}
use Rattle.std.specs.Io.KnownBytes.{Appends}
use Rattle.std.specs.declared.alloc.AllocError.{AllocError}
use Rattle.pylock_run.specs.Report.{Report}
use Rattle.pylock_run.specs.Report.Fault.{HasCause}
use Rattle.pylock_run.specs.Stream.{SinkValue, TakesPrefix, one_more}
use Rattle.pylock_run.specs.declared.report.fault.RunFault.{RunFault}

-- one write failed, or an allocation was refused and no write failed
abbrev pub IsOutputFault : SinkValue → SinkValue → RunFault → Type 0
IsOutputFault sink sink' fault = HasCause (record {
  read = ⊥;
  write = sink'.failures ≡ one_more sink.failures;
  input = ⊥;
  memory = sink'.failures ≡ sink.failures;
}) fault

-- A report is printed: the writer took exactly its text, the result is its status, and no write
-- failed; or there is a fault, and the writer took a prefix of the text.
pub record Prints (report : Report) (sink sink' : SinkValue) (result : Result ℕ RunFault)
    : Type 0 where
  pub text : OnOk result (Appends sink.held sink'.held report.text)
  pub status : IfOk result (λ status. status ≡ report.status)
  pub counted : OnOk result (sink'.failures ≡ sink.failures)
  pub prefix : OnErr result (TakesPrefix sink sink' report.text)
  pub fault : IfErr result (IsOutputFault sink sink')

-- the report stands behind what stood before, and its status is the result; nothing is said where
-- an allocation was refused
abbrev pub Pushes : List ℕ → List ℕ → Report → Result ℕ AllocError → Type 0
Pushes old new report (Ok status) = (new ≡ old ++ report.text) × (status ≡ report.status)
Pushes old new report (Err refused) = Unit {0}
