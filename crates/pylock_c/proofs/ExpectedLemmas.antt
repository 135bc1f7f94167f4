-- An outcome is what it gives.
use Rattle.std.proofs.Common.{◌≡◌, ℕ, List, Result, Ok, Err, Vec, Global, refl}
use Rattle.std.specs.Result.{result_map_both}
use Rattle.pytext.specs.Agreement.{Gives}
use Rattle.pylock_slots.specs.declared.refusal.Refusal.{Refusal}
use Rattle.pylock_slots.specs.declared.refusal.Refusal.TheVariants.{Memory}

-- the items of an outcome, or its refusal
abbrev pub told : Result (Vec ℕ Global) Refusal → Result (List ℕ) Refusal
told outcome = result_map_both (λ bytes. bytes.items) (λ refusal. refusal) outcome

pub gives_itself : (outcome : Result (Vec ℕ Global) Refusal) → Gives Memory (λ bytes. bytes.items) outcome (told outcome)
gives_itself (Ok bytes) = refl
gives_itself (Err refusal) = λ real. refl
