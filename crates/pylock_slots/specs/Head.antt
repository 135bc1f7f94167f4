-- The head of a lock.
use Rattle.std.specs.Prelude.{ℕ, List, Result, Ok}
use Rattle.pytext.specs.Results.{◌>>=◌}
use Rattle.pylock_documents.specs.Documents.{lock_head_rows}
use Rattle.pylock_program.specs.Text.Json.{json_text}
use Rattle.pylock_readers.specs.Lock.Reading.{lock_of}
use Rattle.pylock_run.specs.Report.{refuse_as}
use Rattle.pylock_run.specs.declared.report.opening.OpenError.{OpenError}
use Rattle.pylock_run.specs.declared.report.opening.OpenError.TheVariants as unopened
use Rattle.pylock_slots.specs.declared.object.Object.{Object}
use Rattle.pylock_slots.specs.declared.object.Object.TheVariants as kind

-- the head of a lock, as a JSON document
unfoldable pub head_of : List ℕ → Result Object OpenError
head_of bytes = do
  lock ← refuse_as unopened.Lock (lock_of bytes)
  Ok (kind.Text (json_text (lock_head_rows lock.head)))
