-- What is left where a lock or an environment is refused.
use Rattle.std.proofs.Common.{◌≡◌, ℤ, refl, subst, sym}
use Rattle.std.specs.Prelude.{Option, Result, Err}
use Rattle.pylock_run.specs.Text.Refusal.{refusal_text}
use Rattle.pylock_run.specs.declared.report.opening.OpenError.{OpenError}
use Rattle.pylock_slots.specs.Opening.{Leaves, Opens, open_refusal}
use Rattle.pylock_slots.specs.Refusal.{number}
use Rattle.pylock_slots.specs.declared.object.Object.{Object}
use Rattle.pylock_slots.specs.declared.object.Object.TheVariants as kind

-- the object and the code by other names
pub leaves_as : {object wanted : Object} {code told code' : ℤ} {old new : Option Object} → object ≡ wanted → code ≡ told
    → Leaves object code old new code' → Leaves wanted told old new code'
leaves_as {object = object} {told = told} {code' = code'} {old = old} {new = new} is same leaves =
    subst (λ (l : Object). Leaves l told old new code') is (subst (λ (z : ℤ). Leaves object z old new code') same leaves)

-- a definition that is refused
pub opens_refused : {definition : Result Object OpenError} {refusal : OpenError} {code wanted : ℤ} {words words' : Option Object}
    (slot : Option Object) → definition ≡ Err refusal → wanted ≡ code
    → Leaves (kind.Text (refusal_text refusal)) (number (open_refusal refusal)) words words' code
    → Opens definition slot slot words words' wanted
opens_refused {refusal = refusal} {wanted = wanted} {words = words} {words' = words'} slot is told leaves =
    subst (λ (d : Result Object OpenError). Opens d slot slot words words' wanted) (sym is) (
      subst (λ (z : ℤ). Leaves (kind.Text (refusal_text refusal)) (number (open_refusal refusal)) words words' z) (sym told) leaves,
      refl,
    )
