-- What it is for a call to give what a definition gives. It says both sides: the value only where
-- the definition has it, and a refusal only where the definition has that refusal.
use Rattle.std.specs.Prelude.{◌≡◌, Result, Ok, Err}

-- the call gives what the definition gives, its value seen by `view`, unless it gives `memory`,
-- which stands for out of memory
abbrev pub Gives : {X V E : Type 0} → E → (X → V) → Result X E → Result V E → Type 0
Gives memory view (Ok x) definition = definition ≡ Ok (view x)
Gives memory view (Err e) definition = (e ≡ memory → ⊥) → definition ≡ Err e
