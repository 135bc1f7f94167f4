-- What a call leaves that starts a session on a lock that is taken strictly: the session in one
-- slot, or why there is none in another.
use Rattle.std.specs.Prelude.{◌≡◌, ℤ, pos, Option, None, Result, Ok, Err}
use Rattle.std.specs.Result.{result_map_both}
use Rattle.pylock_command.specs.declared.form.Form.{Form}
use Rattle.pylock_core.specs.Session.Judgement.{all_numbers}
use Rattle.pylock_core.specs.Session.State.{State}
use Rattle.pylock_program.specs.Refusal.{unopened_printed}
use Rattle.pylock_program.specs.declared.opening.Unopened.{Unopened}
use Rattle.pylock_program.specs.declared.opening.Unopened.TheVariants as unopened
use Rattle.pylock_slots.specs.Opening.{Leaves, open_refusal}
use Rattle.pylock_slots.specs.Refusal.{number}
use Rattle.pylock_slots.specs.Sessions.{session_at}
use Rattle.pylock_slots.specs.declared.object.Object.{Object}
use Rattle.pylock_slots.specs.declared.object.Object.TheVariants as kind
use Rattle.pylock_slots.specs.declared.refusal.Refusal.{Refusal}
use Rattle.pylock_slots.specs.declared.refusal.Refusal.TheVariants as refusal

-- the session at the start: the head and every entry are judged
abbrev pub strictly_started : Result State Unopened → Result Object Unopened
strictly_started opened =
    result_map_both (λ state. kind.Session (session_at state (all_numbers state)))
    (λ unopened. unopened) opened

abbrev pub unopened_refusal : Unopened → Refusal
unopened_refusal (unopened.Findings found) = refusal.Findings
unopened_refusal (unopened.Refused error) = open_refusal error

-- What is opened is left in its slot, with code 0, and the words stay; what isn't leaves what is
-- printed of it, in this form, in the words, with its code, and the slot stays; or memory runs out,
-- and both stay.
abbrev pub OpensStrictly : Form → Result Object Unopened → Option Object → Option Object
    → Option Object → Option Object → ℤ → Type 0
OpensStrictly form (Ok object) old new words words' code =
    Leaves object (pos 0) old new code × (words' ≡ words)
OpensStrictly form (Err unopened) old new words words' code =
    Leaves (kind.Text (unopened_printed form None unopened)) (number (unopened_refusal unopened))
    words words' code × (new ≡ old)
