-- What is left where a record is kept.
use Rattle.std.proofs.Common.{◌≡◌, ◌⊎◌, ◌∙◌, ℕ, ℤ, pos, List, Option, Some, Result, Ok, Err, IfOk, IfErr, Vec, Global, sym, ap, ⊎_elim}
use Rattle.pylock_slots.specs.Refusal.{number}
use Rattle.pylock_slots.specs.declared.object.Object.{Object}
use Rattle.pylock_slots.specs.declared.object.Object.TheVariants as kind
use Rattle.pylock_slots.specs.declared.refusal.Refusal.{Refusal}
use Rattle.pylock_slots.specs.declared.refusal.Refusal.TheVariants.{Memory, Parts}

-- a call that isn't refused has kept its record
pub kept_record : (outcome : Result (Vec ℕ Global) Refusal) (Told : List ℕ → Type 0) (Cut : Type 0) (old : Option Object) {new : Option Object} {code : ℤ}
    → IfOk outcome (λ told. Told told.items)
    → IfErr outcome (λ refusal. (refusal ≡ Memory) ⊎ ((refusal ≡ Parts) × Cut))
    → IfOk outcome (λ told. ((code ≡ pos 0) × (new ≡ Some (kind.Text told.items))) ⊎ ((code ≡ pos 1) × (new ≡ old)))
    → IfErr outcome (λ refusal. (code ≡ number refusal) × (new ≡ old))
    → code ≡ pos 0 → (told : List ℕ) × Told told × (new ≡ Some (kind.Text told))
kept_record (Ok told) Told Cut old tells why kept refused ok =
    ⊎_elim (λ left. (told.items, tells, left.1)) (λ short. absurd (cc (sym short.0 ∙ ok))) kept
kept_record (Err refusal) Told Cut old tells why kept refused ok =
    absurd (⊎_elim (λ short. cc (sym (ap number short) ∙ sym refused.0 ∙ ok)) (λ parts. cc (sym (ap number parts.0) ∙ sym refused.0 ∙ ok)) why)
