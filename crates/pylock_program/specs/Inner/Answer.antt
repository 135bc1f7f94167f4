-- An answer that is pushed, or why there is none.
use Rattle.std.specs.Prelude.{◌≡◌, ℕ, ◌++◌, List, Result, Ok, Err}
use Rattle.pylock_run.specs.Report.{Report}
use Rattle.pylock_program.specs.Refusal.{out_of_memory}
use Rattle.pylock_program.specs.declared.refusal.Cause.{Cause}
use Rattle.pylock_program.specs.declared.refusal.Refusal.{Refusal}

-- the report stands behind what stood before, and this is its status
abbrev pub IsPushed : List ℕ → List ℕ → ℕ → Result Report Cause → Type 0
IsPushed old new status (Ok report) = (new ≡ old ++ report.text) × (status ≡ report.status)
IsPushed old new status (Err because) = ⊥

-- An answer is pushed, and its status is the result; or it is refused as the definition says.
-- Nothing is said where memory ran out.
abbrev pub PushesOr : List ℕ → List ℕ → Result Report Cause → Result ℕ Refusal → Type 0
PushesOr old new answer (Ok status) = IsPushed old new status answer
PushesOr old new answer (Err refusal) =
    (refusal.cause ≡ out_of_memory → ⊥) → answer ≡ Err refusal.cause
