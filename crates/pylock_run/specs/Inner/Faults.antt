-- What the faults of single steps of a run say.
use Rattle.std.specs.Prelude.{◌≡◌, ℕ, ◌<◌}
use Rattle.pylock_run.specs.Report.Fault.{HasCause}
use Rattle.pylock_run.specs.Report.Run.{most_lines}
use Rattle.pylock_run.specs.Stream.{SinkValue, one_more}
use Rattle.pylock_run.specs.declared.report.fault.RunFault.{RunFault}

-- as many lines are complete as there may be, and one more byte came; or an allocation was refused
abbrev pub IsTakeFault : ℕ → RunFault → Type 0
IsTakeFault complete fault = HasCause (record {
  read = ⊥;
  write = ⊥;
  input = complete ≡ most_lines;
  memory = Unit {0};
}) fault

-- a write failed
abbrev pub IsWriteFault : SinkValue → SinkValue → RunFault → Type 0
IsWriteFault sink sink' fault = HasCause (record {
  read = ⊥;
  write = sink'.failures ≡ one_more sink.failures;
  input = ⊥;
  memory = ⊥;
}) fault

-- a write failed; or more lines begin than there may be; or an allocation was refused
abbrev pub IsFeedFault : SinkValue → SinkValue → ℕ → RunFault → Type 0
IsFeedFault sink sink' begun fault = HasCause (record {
  read = ⊥;
  write = sink'.failures ≡ one_more sink.failures;
  input = (most_lines < begun) × (sink'.failures ≡ sink.failures);
  memory = sink'.failures ≡ sink.failures;
}) fault
