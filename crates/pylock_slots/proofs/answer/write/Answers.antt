-- The code of bytes, and of a result that is refused.
use Rattle.std.proofs.Common.{rules, subst, ℕ, List, Bor, Result, refl}
use Rattle.std.specs.Prelude.{Err, Ok}
use Rattle.pytext.specs.Agreement.{Gives}
use Rattle.pylock_slots.specs.declared.refusal.Refusal.{Refusal}
use Rattle.pylock_slots.specs.declared.refusal.Refusal.TheVariants.{Memory}
use Rattle.pylock_slots.proofs.answer.write.Goals as goal

pub returns-in-Ok : goal.returns-in-Ok
returns-in-Ok c = λ definition gives.
    let e = subst (λ (o : Result (Bor (List ℕ)) Refusal). Gives Memory (λ b. b.now) o definition) c.in-Ok.is gives in
    (Ok c.in-Ok.bytes.now, e, Prim.search rules, c.put.ensures.buffer, c.put.ensures.needed)

pub returns-in-Err : goal.returns-in-Err
returns-in-Err c = λ definition gives.
    let e = subst (λ (o : Result (Bor (List ℕ)) Refusal). Gives Memory (λ b. b.now) o definition) c.in-Err.is gives in
    (Err c.in-Err.refusal, e, Prim.search rules, refl, refl)
