-- What a call leaves that tells what was expected of a text.
use Rattle.std.specs.Prelude.{ℕ, ℤ, List, Option, Result}
use Rattle.pylock_slots.specs.Answer.{Tells}
use Rattle.pylock_slots.specs.Text.{kept_text}
use Rattle.pylock_slots.specs.declared.object.Object.{Object}
use Rattle.pylock_slots.specs.declared.refusal.Refusal.{Refusal}

-- A record is left in the slot, or the text is refused, and the slot stays. What the record tells
-- is no one's promise.
abbrev pub Records : Option Object → Option Object → ℤ → Type 0
Records old new code = (made : Result (List ℕ) Refusal) × Tells (kept_text made) old new code
