-- What a call leaves that reads a lock or an environment: an object in one slot, or the words of
-- the refusal in another.
use Rattle.std.specs.Prelude.{◌≡◌, ◌⊎◌, ℕ, ℤ, pos, List, Option, Some, Result, Ok, Err}
use Rattle.pylock_run.specs.Text.Refusal.{refusal_text}
use Rattle.pylock_run.specs.declared.report.opening.OpenError.{OpenError}
use Rattle.pylock_run.specs.declared.report.opening.OpenError.TheVariants as unopened
use Rattle.pylock_slots.specs.Refusal.{number}
use Rattle.pylock_slots.specs.declared.object.Object.{Object}
use Rattle.pylock_slots.specs.declared.object.Object.TheVariants as kind
use Rattle.pylock_slots.specs.declared.refusal.Refusal.{Refusal}
use Rattle.pylock_slots.specs.declared.refusal.Refusal.TheVariants as refusal

abbrev pub open_refusal : OpenError → Refusal
open_refusal (unopened.Lock error) = refusal.Lock
open_refusal (unopened.Environment error) = refusal.Environment
open_refusal unopened.Memory = refusal.Memory

-- the object is left in the slot, with this code; or memory runs out, and the slot stays
abbrev pub Leaves : Object → ℤ → Option Object → Option Object → ℤ → Type 0
Leaves object code old new code' =
    ((new ≡ Some object) × (code' ≡ code)) ⊎ ((new ≡ old) × (code' ≡ pos 1))

-- What is read is left in its slot, with code 0, and the words stay; what is refused leaves its
-- line in the words, with its code, and the slot stays; or memory runs out, and both stay.
abbrev pub Opens : Result Object OpenError → Option Object → Option Object → Option Object
    → Option Object → ℤ → Type 0
Opens (Ok object) old new words words' code =
    Leaves object (pos 0) old new code × (words' ≡ words)
Opens (Err refused) old new words words' code =
    Leaves (kind.Text (refusal_text refused)) (number (open_refusal refused)) words words' code
    × (new ≡ old)

-- A text for a person is left in the slot, with code 0; what it tells is no one's promise. Or
-- memory runs out, and the slot stays.
abbrev pub Says : Option Object → Option Object → ℤ → Type 0
Says old new code = (text : List ℕ) × Leaves (kind.Text text) (pos 0) old new code
