-- What is left where a lock that is taken strictly, or an environment, is refused.
use Rattle.std.proofs.Common.{◌≡◌, ℤ, refl, subst, sym}
use Rattle.std.specs.Prelude.{Option, None, Result, Err}
use Rattle.pylock_command.specs.declared.form.Form.{Form}
use Rattle.pylock_program.specs.Refusal.{unopened_printed}
use Rattle.pylock_program.specs.declared.opening.Unopened.{Unopened}
use Rattle.pylock_slots.specs.Opening.{Leaves}
use Rattle.pylock_slots.specs.Refusal.{number}
use Rattle.pylock_slots.specs.declared.object.Object.{Object}
use Rattle.pylock_slots.specs.declared.object.Object.TheVariants as kind
use Rattle.pylock_c.specs.Strict.{OpensStrictly, unopened_refusal}

pub unopened_opens : (form : Form) {definition : Result Object Unopened} {unopened : Unopened} {text : Object} {code code' wanted : ℤ}
    {words words' : Option Object} (slot : Option Object) → definition ≡ Err unopened → text ≡ kind.Text (unopened_printed form None unopened)
    → code ≡ number (unopened_refusal unopened) → wanted ≡ code' → Leaves text code words words' code'
    → OpensStrictly form definition slot slot words words' wanted
unopened_opens form {unopened = unopened} {code = code} {code' = code'} {wanted = wanted} {words = words} {words' = words'} slot is text told same leaves =
    subst (λ (d : Result Object Unopened). OpensStrictly form d slot slot words words' wanted) (sym is) (
      subst (λ (z : ℤ). Leaves (kind.Text (unopened_printed form None unopened)) (number (unopened_refusal unopened)) words words' z) (sym same)
          (subst (λ (z : ℤ). Leaves (kind.Text (unopened_printed form None unopened)) z words words' code') told
          (subst (λ (l : Object). Leaves l code words words' code') text leaves)),
      refl,
    )
