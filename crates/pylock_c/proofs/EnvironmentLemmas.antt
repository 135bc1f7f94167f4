-- The record of a kept environment.
use Rattle.std.proofs.Common.{◌≡◌, ℕ, ℤ, List, Result, Ok, Err, Vec, Global, subst, sym}
use Rattle.std.specs.Prelude.{Option}
use Rattle.pymark_core.specs.Environment.{EnvironmentValue}
use Rattle.pylock_values.specs.Environments.{IsRecordOf}
use Rattle.pylock_c.specs.Answered.{IsAnswered}
use Rattle.pylock_c.specs.Environments.{Records}
use Rattle.pylock_slots.specs.Answer.{Tells}
use Rattle.pylock_slots.specs.Text.{kept_text}
use Rattle.pylock_slots.specs.declared.object.Object.{Object}
use Rattle.pylock_slots.specs.declared.refusal.Refusal.{Refusal}
use Rattle.pylock_c.proofs.ExpectedLemmas.{told}

-- an outcome answers by its items
items_answer : (environment : Result EnvironmentValue Refusal) (outcome : Result (Vec ℕ Global) Refusal)
    → IsAnswered environment (λ e made. IsRecordOf e made.items) outcome → IsAnswered environment IsRecordOf (told outcome)
items_answer environment (Ok made) answered = answered
items_answer environment (Err refusal) answered = answered

-- what is told of an environment that was taken out
pub records_kept : {taken kept : Result EnvironmentValue Refusal} (outcome : Result (Vec ℕ Global) Refusal) {old new : Option Object} {code code' : ℤ}
    → taken ≡ kept → code' ≡ code → IsAnswered taken (λ e made. IsRecordOf e made.items) outcome → Tells (kept_text (told outcome)) old new code
    → Records kept old new code'
records_kept {taken = taken} outcome {old = old} {new = new} is same answered tells = (
  told outcome,
  subst (λ (k : Result EnvironmentValue Refusal). IsAnswered k IsRecordOf (told outcome)) is (items_answer taken outcome answered),
  subst (λ (z : ℤ). Tells (kept_text (told outcome)) old new z) (sym same) tells,
)
