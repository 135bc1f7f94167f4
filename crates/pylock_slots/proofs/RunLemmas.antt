-- A run in a slot, by other names of what the slots have.
use Rattle.std.proofs.Common.{◌≡◌, ℤ, Option, subst, sym}
use Rattle.pylock_command.specs.declared.form.Form.{Form}
use Rattle.pylock_slots.specs.Runs.{Ends}
use Rattle.pylock_slots.specs.declared.object.Object.{Object}

pub ends_at : {form : Form} {before old text output : Option Object} {code code' : ℤ} → before ≡ old → output ≡ text → code' ≡ code
    → Ends form before text code → Ends form old output code'
ends_at {form = form} {before = before} {text = text} {output = output} {code' = code'} was is same ends =
    subst (λ (o : Option Object). Ends form o output code') was
    (subst (λ (o : Option Object). Ends form before o code') (sym is)
    (subst (λ (z : ℤ). Ends form before text z) (sym same) ends))
