-- Answers on a lock at once, and the variables of an environment's text.
use Rattle.std.specs.Prelude.{ℕ, ℤ, pos, List, Option, Some, Result, Ok}
use Rattle.pytext.specs.Results.{◌>>=◌}
use Rattle.pylock_readers.specs.Environment.{env_of}
use Rattle.pylock_run.specs.Report.{Report, refuse_as}
use Rattle.pylock_run.specs.declared.report.opening.OpenError.{OpenError}
use Rattle.pylock_run.specs.declared.report.opening.OpenError.TheVariants as unopened
use Rattle.pylock_slots.specs.declared.object.Object.{Object}
use Rattle.pylock_slots.specs.declared.object.Object.TheVariants as kind
use Rattle.pylock_slots.specs.declared.refusal.Refusal.{Refusal}

-- a report as C has it: a kept text and a status; no report is refused
abbrev pub reported : Report → Result (Option Object × ℤ) Refusal
reported report = Ok (Some (kind.Text report.text), pos report.status)

-- what markers are judged in, of the text of an environment: its variables, and nothing asked for
unfoldable pub environment_read : List ℕ → Result Object OpenError
environment_read json = do
  read ← refuse_as unopened.Environment (env_of json)
  Ok (kind.Environment read.0)
