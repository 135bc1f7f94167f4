-- Answers that no definition determines.
use Rattle.std.specs.Prelude.{◌≡◌, Result, Ok, Err}
use Rattle.pylock_slots.specs.declared.refusal.Refusal.{Refusal}
use Rattle.pylock_slots.specs.declared.refusal.Refusal.TheVariants.{Memory}

-- Something is asked of what slots keep: the answer says of that what it is to say, or the slots
-- are refused, or memory ran out.
abbrev pub IsAnswered : {K A : Type 0} → Result K Refusal → (K → A → Type 0) → Result A Refusal
    → Type 0
IsAnswered {K = K} kept says (Ok answer) = (k : K) × (kept ≡ Ok k) × says k answer
IsAnswered kept says (Err refusal) = (refusal ≡ Memory → ⊥) → kept ≡ Err refusal
