-- What is kept of a run of `select`, of which more input may come.
use Rattle.std.specs.Prelude.{◌⊎◌, ◌+◌, ◌<◌, ℕ, List, length}
use Rattle.pylock_run.specs.Inner.Editing.{EditingValue, editing_after, lines_begun}
use Rattle.pylock_run.specs.Report.Run.{most_bytes, most_lines}
use Rattle.pylock_run.specs.declared.report.fault.RunFault.{RunFault}
use Rattle.pylock_run.specs.declared.report.fault.RunFault.TheVariants as fault
use Rattle.pylock_slots.specs.declared.refusal.Refusal.{Refusal}
use Rattle.pylock_slots.specs.declared.refusal.Refusal.TheVariants as refusal

-- the session and the lines so far, and how many bytes of the input came
pub record RunValue : Type 0 where
  pub editing : EditingValue
  pub total : ℕ

-- with the piece, the input has more bytes or more lines than it may have
abbrev pub PassesALimit : RunValue → List ℕ → Type 0
PassesALimit run piece = (most_bytes < run.total + length piece)
    ⊎ (most_lines < lines_begun (editing_after run.editing piece))

-- in memory a write fails only where memory is refused
abbrev pub run_refusal : RunFault → Refusal
run_refusal fault.Input = refusal.Input
run_refusal other = refusal.Memory
