-- Runs of `select` in slots, by the pieces of their input.
use Rattle.std.specs.Prelude.{◌≡◌, ◌⊎◌, ◌&&◌, ◌+◌, ◌≤◌, ℕ, ℤ, pos, List, length, not}
use Rattle.std.specs.Prelude.{if◌then◌else◌, Option, Some, Result, Ok, Err}
use Rattle.pylock_command.specs.declared.form.Form.{Form}
use Rattle.pylock_core.specs.Session.State.{State}
use Rattle.pylock_program.specs.Show.{run_shown}
use Rattle.pylock_run.specs.Inner.Editing.{after_input, bytes_text, editing_after}
use Rattle.pylock_run.specs.Inner.Editing.{input_end_text, start}
use Rattle.pylock_run.specs.Report.Run.{most_bytes}
use Rattle.pylock_run.specs.Text.Refusal.{refusal_text}
use Rattle.pylock_run.specs.declared.report.opening.OpenError.{OpenError}
use Rattle.pylock_slots.specs.Opening.{Leaves, open_refusal}
use Rattle.pylock_slots.specs.Refusal.{number}
use Rattle.pylock_slots.specs.Run.{PassesALimit, RunValue}
use Rattle.pylock_slots.specs.declared.object.Object.{Object}
use Rattle.pylock_slots.specs.declared.object.Object.TheVariants as kind
use Rattle.pylock_slots.specs.declared.refusal.Refusal.{Refusal}
use Rattle.pylock_slots.specs.declared.refusal.Refusal.TheVariants as refusal

-- the run that is kept
abbrev pub run_in : Option Object → Result RunValue Refusal
run_in (Some (kind.Run run)) = Ok run
run_in other = Err refusal.Empty

-- The run begins on the state: its first answer is printed; or memory runs out, and both slots
-- stay. Where the lock or the environment is refused, the line of the refusal is left, with its
-- code.
abbrev pub Begins : Form → Result State OpenError → Option Object → Option Object → Option Object
    → Option Object → ℤ → Type 0
Begins form (Ok state) run run' output output' code = ((code ≡ pos 0)
    × (run' ≡ Some (kind.Run (record { editing = start state; total = 0 })))
    × (output' ≡ Some (kind.Text ((run_shown form).answer state))))
    ⊎ ((code ≡ pos 1) × (run' ≡ run) × (output' ≡ output))
Begins form (Err refused) run run' output output' code =
    Leaves (kind.Text (refusal_text refused)) (number (open_refusal refused)) output output' code
    × (run' ≡ run)

-- the run is edited by the piece, and what its lines print is left
pub record Feeds (form : Form) (piece : List ℕ) (run run' output : Option Object) : Type 0 where
  pub was : RunValue
  pub before : run_in run ≡ Ok was
  pub after : run' ≡ Some (kind.Run (record {
    editing = editing_after was.editing piece;
    total = was.total + length piece;
  }))
  pub prints : output ≡ Some (kind.Text (bytes_text (run_shown form) was.editing piece))
  pub within : was.total + length piece ≤ most_bytes

-- memory ran out, the slot has no run, or the input passes a limit with the piece
abbrev pub IsFeedRefusal : List ℕ → Option Object → Refusal → Type 0
IsFeedRefusal piece run refused = (refused ≡ refusal.Memory)
    ⊎ ((refused ≡ refusal.Empty) × (run_in run ≡ Err refusal.Empty))
    ⊎ ((refused ≡ refusal.Input) × (was : RunValue) × (run_in run ≡ Ok was)
    × PassesALimit was piece)

-- the input of the run ends, what its last line prints is left, and its status told
pub record Ends (form : Form) (run output : Option Object) (status : ℤ) : Type 0 where
  pub was : RunValue
  pub before : run_in run ≡ Ok was
  pub prints : output ≡ Some (kind.Text (input_end_text (run_shown form) was.editing))
  pub told : status ≡ pos (if (after_input was.editing).plan
      && not (after_input was.editing).refused then 0 else 1)

-- memory ran out, or the slot has no run
abbrev pub IsEndRefusal : Option Object → Refusal → Type 0
IsEndRefusal run refused = (refused ≡ refusal.Memory)
    ⊎ ((refused ≡ refusal.Empty) × (run_in run ≡ Err refusal.Empty))
