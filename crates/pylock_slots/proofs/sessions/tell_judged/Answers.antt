-- The code of an edit that is refused.
use Rattle.std.proofs.Common.{rules, subst, ℕ, Result}
use Rattle.std.specs.Prelude.{Err}
use Rattle.pylock_slots.specs.Sessions.{Counts}
use Rattle.pylock_slots.specs.declared.refusal.Refusal.{Refusal}
use Rattle.pylock_slots.proofs.sessions.tell_judged.Goals as goal

pub returns-in-Err : goal.returns-in-Err
returns-in-Err c = λ definition old new edits.
    let e = subst (λ (o : Result ℕ Refusal). Counts definition old new o) c.in-Err.is edits in
    (Err c.in-Err.refusal, e.1, Prim.search rules, λ i. (e.0 i, c.args.judged.now))
