-- What C is told of an answer.
use Rattle.std.proofs.Common.{◌≡◌, ℤ, pos, refl, subst, sym}
use Rattle.std.specs.Prelude.{Result, Ok, Err}
use Rattle.pylock_c.specs.Algebra.{Answers, told_of}
use Rattle.pylock_c.specs.Answered.{IsAnswered}
use Rattle.pylock_slots.specs.Answer.{Tells}
use Rattle.pylock_slots.specs.Refusal.{number}
use Rattle.pylock_slots.specs.declared.refusal.Refusal.{Refusal}

pub told_ok : {X : Type 0} {definition : Result X Refusal} {old new : X} → definition ≡ Ok new → Tells definition old new (pos 0)
told_ok {new = new} gives = (Ok new, gives, refl, refl)

pub told_err : {X : Type 0} {definition : Result X Refusal} {old : X} {refusal : Refusal} {code : ℤ}
    → definition ≡ Err refusal → code ≡ number refusal → Tells definition old old code
told_err {refusal = refusal} gives code = (Err refusal, λ _. gives, code, refl)

pub ruleset told_answers = (told_ok, told_err)

-- what is told of what slots keep, where that was taken out
pub answers_kept : {K A X : Type 0} (says : K → A → Type 0) (told : X → A → X) {taken kept : Result K Refusal} (outcome : Result A Refusal)
    {old new : X} {code code' : ℤ} → taken ≡ kept → code' ≡ code → IsAnswered taken says outcome → Tells (told_of (told old) outcome) old new code
    → Answers kept says told old new code'
answers_kept {K = K} says told outcome {old = old} {new = new} is same answered tells = (
  outcome,
  subst (λ (k : Result K Refusal). IsAnswered k says outcome) is answered,
  subst (λ (z : ℤ). Tells (told_of (told old) outcome) old new z) (sym same) tells,
)
