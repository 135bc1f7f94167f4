-- The environments of C, in which markers are judged.
use Rattle.std.specs.Prelude.{ℕ, ℤ, List, Option, Some, Result, Ok}
use Rattle.pytext.specs.Results.{◌>>=◌}
use Rattle.pymark_core.specs.Change.{changed}
use Rattle.pymark_core.specs.Environment.{EnvironmentValue, empty_environment}
use Rattle.pymark_core.specs.declared.change.Change.{Change}
use Rattle.pylock_run.specs.declared.line.refusal.LineRefusal.{LineRefusal}
use Rattle.pylock_values.specs.Environments.{IsRecordOf}
use Rattle.pylock_c.specs.Answered.{IsAnswered}
use Rattle.pylock_c.specs.Markers.{environment_in}
use Rattle.pylock_slots.specs.Answer.{Tells}
use Rattle.pylock_slots.specs.Refusal.{line_refusal, refuse_as}
use Rattle.pylock_slots.specs.Text.{kept_text}
use Rattle.pylock_slots.specs.declared.object.Object.{Object}
use Rattle.pylock_slots.specs.declared.object.Object.TheVariants as kind
use Rattle.pylock_slots.specs.declared.refusal.Refusal.{Refusal}

abbrev pub new_environment : Result (Option Object) Refusal
new_environment = Ok (Some (kind.Environment empty_environment))

-- what a slot keeps after a change that was read; a slot with no environment is refused first
abbrev pub changed_in : Result Change LineRefusal → Option Object → Result (Option Object) Refusal
changed_in read object = do
  environment ← environment_in object
  change ← refuse_as line_refusal read
  Ok (Some (kind.Environment (changed change environment)))

-- the record of an environment is left in a slot, or a refusal, which leaves the slot
abbrev pub Records : Result EnvironmentValue Refusal → Option Object → Option Object → ℤ → Type 0
Records environment old new code = (outcome : Result (List ℕ) Refusal)
    × IsAnswered environment IsRecordOf outcome
    × Tells (kept_text outcome) old new code
