-- The code of items that the call made, and of a refusal.
use Rattle.std.proofs.Common.{rules, subst, sym, ◌≡◌, List, Vec, Global, Result, refl}
use Rattle.std.specs.Prelude.{Err, Ok}
use Rattle.pytext.specs.Agreement.{Gives}
use Rattle.pylock_slots.specs.declared.refusal.Refusal.{Refusal}
use Rattle.pylock_slots.specs.declared.refusal.Refusal.TheVariants.{Memory}
use Rattle.pylock_slots.proofs.answer.write_made.Goals as goal

pub returns-in-Ok : goal.returns-in-Ok
returns-in-Ok g c = λ definition gives.
    let e = subst (λ (o : Result (Vec g.row.T.Denot Global) Refusal). Gives Memory (λ b. b.items) o definition) c.in-Ok.is gives in
    let f = subst (λ (xs : List g.row.T.Denot). definition ≡ Ok xs) (sym c.deref.ensures.value) e in
    (Ok c.deref.result.now, f, Prim.search rules, c.put.ensures.buffer, c.put.ensures.needed)

pub returns-in-Err : goal.returns-in-Err
returns-in-Err g c = λ definition gives.
    let e = subst (λ (o : Result (Vec g.row.T.Denot Global) Refusal). Gives Memory (λ b. b.items) o definition) c.in-Err.is gives in
    (Err c.in-Err.refusal, e, Prim.search rules, refl, refl)
