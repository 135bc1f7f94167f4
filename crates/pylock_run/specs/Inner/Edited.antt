-- What the editing by an input did, in terms of the bytes that the reader gave.
use Rattle.std.specs.Prelude.{◌≡◌, ℕ, ◌+◌, ◌<◌, ◌≤◌, ◌⊎◌, List, [], length}
use Rattle.std.specs.Io.KnownBytes.{Appends, Consumes}
use Rattle.pylock_run.specs.Inner.Editing.{EditingValue, editing_after, bytes_text, lines_begun}
use Rattle.pylock_run.specs.Inner.Writes.{Writes}
use Rattle.pylock_run.specs.Report.{Shown}
use Rattle.pylock_run.specs.Report.Fault.{HasCause}
use Rattle.pylock_run.specs.Report.Run.{most_bytes, most_lines}
use Rattle.pylock_run.specs.Stream.{SourceValue, SinkValue, TakesPrefix, one_more}
use Rattle.pylock_run.specs.declared.report.fault.RunFault.{RunFault}

-- the reader gave some bytes, the session was edited by them, what they print was written, and no
-- call failed
pub record Edited (shown : Shown) (source source' : SourceValue) (sink sink' : SinkValue)
    (start at : EditingValue) (total new_total : ℕ) : Type 0 where
  pub given : List ℕ
  pub gave : Consumes source.rest source'.rest given
  pub size : new_total ≡ total + length given
  pub editing : at ≡ editing_after start given
  pub writes : Writes sink sink' (bytes_text shown start given)
  pub reads : source'.failures ≡ source.failures

-- the same of the whole input, which is no longer than it may be
abbrev pub EditsAll : Shown → (source source' : SourceValue) → (sink sink' : SinkValue)
    → (start at : EditingValue) → Type 0
EditsAll shown source source' sink sink' start at =
    (total : ℕ) × Edited shown source source' sink sink' start at 0 total × (total ≤ most_bytes)

-- the bytes that were given, with those before, are more than there may be
pub record GivesPastLimit (total : ℕ) (source source' : SourceValue) : Type 0 where
  pub given : List ℕ
  pub gave : Consumes source.rest source'.rest given
  pub past : most_bytes < total + length given

-- the reader failed, and gave nothing; or it gave too much
abbrev pub IsReadFault : ℕ → SourceValue → SourceValue → RunFault → Type 0
IsReadFault total source source' fault = HasCause (record {
  read = Consumes source.rest source'.rest [] × (source'.failures ≡ one_more source.failures);
  write = ⊥;
  input = GivesPastLimit total source source' × (source'.failures ≡ source.failures);
  memory = ⊥;
}) fault

-- the fault, after some bytes of which a prefix of what they print was written; where a read
-- failed, all of it
pub record EditFault (shown : Shown) (source source' : SourceValue) (sink sink' : SinkValue)
    (start : EditingValue) (total : ℕ) (fault : RunFault) : Type 0 where
  pub given : List ℕ
  pub gave : Consumes source.rest source'.rest given
  pub prefix : TakesPrefix sink sink' (bytes_text shown start given)
  pub cause : HasCause (record {
    read = (source'.failures ≡ one_more source.failures) × (sink'.failures ≡ sink.failures)
        × Appends sink.held sink'.held (bytes_text shown start given);
    write = (source'.failures ≡ source.failures) × (sink'.failures ≡ one_more sink.failures);
    input = (source'.failures ≡ source.failures) × (sink'.failures ≡ sink.failures)
        × ((most_lines < lines_begun (editing_after start given))
        ⊎ (most_bytes < total + length given));
    memory = (source'.failures ≡ source.failures) × (sink'.failures ≡ sink.failures);
  }) fault
