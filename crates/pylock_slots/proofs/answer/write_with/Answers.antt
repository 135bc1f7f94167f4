-- The code of items that the call made with a value, and of a refusal.
use Rattle.std.proofs.Common.{rules, subst, sym, ◌≡◌, List, Vec, Global, Result, refl}
use Rattle.std.specs.Prelude.{Err, Ok}
use Rattle.pytext.specs.Agreement.{Gives}
use Rattle.pylock_slots.specs.declared.refusal.Refusal.{Refusal}
use Rattle.pylock_slots.specs.declared.refusal.Refusal.TheVariants.{Memory}
use Rattle.pylock_slots.proofs.answer.write_with.Goals as goal

pub returns-in-Ok : goal.returns-in-Ok
returns-in-Ok g c = λ definition gives.
    let e = subst (λ (o : Result (Vec g.row.T.Denot Global × g.row.V.Denot) Refusal). Gives Memory (λ t. (t.0.items, t.1)) o definition) c.in-Ok.is gives in
    let f = subst (λ (xs : List g.row.T.Denot). definition ≡ Ok (xs, c.in-Ok.value)) (sym c.deref.ensures.value) e in
    (Ok (c.deref.result.now, c.in-Ok.value), f, Prim.search rules, c.put.ensures.buffer, c.put.ensures.needed, refl)

pub returns-in-Err : goal.returns-in-Err
returns-in-Err g c = λ definition gives.
    let e = subst (λ (o : Result (Vec g.row.T.Denot Global × g.row.V.Denot) Refusal). Gives Memory (λ t. (t.0.items, t.1)) o definition) c.in-Err.is gives in
    (Err c.in-Err.refusal, e, Prim.search rules, refl, refl, refl)
