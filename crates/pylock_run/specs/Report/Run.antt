-- What a run does, in terms of the bytes that its reader gave and of those that its writer took.
use Rattle.std.specs.Prelude.{◌≡◌, ℕ, ◌<◌, ◌≤◌, ◌⊎◌, List, length, Result, IsErr, IfOk, IfErr}
use Rattle.std.specs.Io.KnownBytes.{Appends, Consumes, IsAtEnd}
use Rattle.pylock_core.specs.Session.State.{State}
use Rattle.pylock_run.specs.Line.{input_lines, complete_lines}
use Rattle.pylock_run.specs.Report.{Shown, as_lines, report_on}
use Rattle.pylock_run.specs.Report.Fault.{HasCause}
use Rattle.pylock_run.specs.Stream.{SourceValue, SinkValue, TakesPrefix, one_more}
use Rattle.pylock_run.specs.declared.report.fault.RunFault.{RunFault}
use Rattle.pylock_run.specs.declared.report.opening.OpenError.{OpenError}

-- the most lines and the most bytes of an input
abbrev pub most_lines : ℕ
most_lines = 1000000

abbrev pub most_bytes : ℕ
most_bytes = 268435456

abbrev pub IsWithinLimits : List ℕ → Type 0
IsWithinLimits input = (length (input_lines input) ≤ most_lines) × (length input ≤ most_bytes)

abbrev pub PassesALimit : List ℕ → Type 0
PassesALimit input = (most_lines < length (input_lines input)) ⊎ (most_bytes < length input)

-- A run from its beginning that ends with a status: the writer took exactly the text of the report
-- on the input that the reader gave, and the status is the report's. No read and no write failed.
-- Unless the lock or the environment is refused, the input came to its end within both limits.
pub record Reports (shown : Shown) (begins : Result State OpenError)
    (source source' : SourceValue) (sink sink' : SinkValue) (status : ℕ) : Type 0 where
  pub input : List ℕ
  pub gave : Consumes source.rest source'.rest input
  pub took : Appends sink.held sink'.held (report_on shown begins (input_lines input)).text
  pub answers : status ≡ (report_on shown begins (input_lines input)).status
  pub reads : source'.failures ≡ source.failures
  pub writes : sink'.failures ≡ sink.failures
  pub ends : IsErr begins ⊎ (IsAtEnd source'.rest × IsWithinLimits input)

-- A run that ends with the fault that was met first: the writer took a prefix of the report's text.
-- `Read` says that one read failed and no write, and that the writer took exactly the text of the
-- report on the lines whose LF stands in what the reader gave; `Write` that one write failed and no
-- read; `Input` that the reader gave an input that passes a limit, and neither failed; `Memory`
-- that neither failed.
pub record Stops (shown : Shown) (begins : Result State OpenError) (source source' : SourceValue)
    (sink sink' : SinkValue) (fault : RunFault) : Type 0 where
  pub input : List ℕ
  pub gave : Consumes source.rest source'.rest input
  pub prefix : TakesPrefix sink sink' (report_on shown begins (input_lines input)).text
  pub cause : HasCause (record {
    read = (source'.failures ≡ one_more source.failures) × (sink'.failures ≡ sink.failures)
        × Appends sink.held sink'.held (report_on shown begins (complete_lines input)).text;
    write = (source'.failures ≡ source.failures) × (sink'.failures ≡ one_more sink.failures);
    input = (source'.failures ≡ source.failures) × (sink'.failures ≡ sink.failures)
        × PassesALimit input;
    memory = (source'.failures ≡ source.failures) × (sink'.failures ≡ sink.failures);
  }) fault

-- A run from its beginning, which prints so: it ends with a status and reports, or with a fault and
-- stops. Where the lock or the environment is refused, the source isn't asked.
pub record IsRunShown (shown : Shown) (begins : Result State OpenError)
    (source source' : SourceValue) (sink sink' : SinkValue) (result : Result ℕ RunFault)
    : Type 0 where
  pub reports : IfOk result (Reports shown begins source source' sink sink')
  pub stops : IfErr result (Stops shown begins source source' sink sink')
  pub unasked : IsErr begins → source' ≡ source

-- a run that prints lines
abbrev pub IsRun : Result State OpenError → SourceValue → SourceValue → SinkValue → SinkValue
    → Result ℕ RunFault → Type 0
IsRun = IsRunShown as_lines
