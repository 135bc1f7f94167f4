-- The code of an edit that is refused.
use Rattle.std.proofs.Common.{rules, subst, Result}
use Rattle.std.specs.Prelude.{Err}
use Rattle.pylock_slots.specs.Answer.{Edits}
use Rattle.pylock_slots.specs.declared.refusal.Refusal.{Refusal}
use Rattle.pylock_slots.proofs.answer.edit_code.Goals as goal

pub returns-in-Err : goal.returns-in-Err
returns-in-Err c = λ definition old new edits.
    let e = subst (λ (o : Result (Unit {0}) Refusal). Edits definition old new o) c.in-Err.is edits in
    (Err c.in-Err.refusal, e.1, Prim.search rules, e.0)
