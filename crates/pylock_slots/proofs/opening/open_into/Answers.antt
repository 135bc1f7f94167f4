-- The line of a refusal is left in the words.
use Rattle.std.proofs.Common.{rules, subst, Result}
use Rattle.pytext.specs.Agreement.{Gives}
use Rattle.pylock_run.specs.declared.report.opening.OpenError.{OpenError as Unopened}
use Rattle.pylock_run.specs.declared.report.opening.OpenError.TheVariants.{Memory}
use Rattle.pylock_slots.specs.Slot.{object}
use Rattle.pylock_slots.specs.declared.object.Object.{Object as Kind}
use Rattle.pylock_slots.proofs.OpeningLemmas.{opens_refused}
use Rattle.pylock_slots.proofs.opening.open_into.Goals as goal

pub returns-in-Err : goal.returns-in-Err
returns-in-Err c = λ definition gives.
    let e = subst (λ (o : Result Kind Unopened). Gives Memory (λ kept. kept) o definition) c.in-Err.is gives in
    opens_refused (object c.args.slot.now) (e (Prim.search rules)) (Prim.search rules) c.leave_line.ensures
