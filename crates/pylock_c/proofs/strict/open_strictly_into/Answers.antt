-- What is printed is left in the words.
use Rattle.std.proofs.Common.{rules, subst, Result}
use Rattle.pytext.specs.Agreement.{Gives}
use Rattle.pylock_program.specs.declared.opening.Unopened.{Unopened as NotOpened}
use Rattle.pylock_program.specs.declared.opening.Unopened.TheVariants as unopened
use Rattle.pylock_run.specs.declared.report.opening.OpenError.TheVariants as refusal
use Rattle.pylock_slots.specs.Slot.{object}
use Rattle.pylock_slots.specs.declared.object.Object.{Object as Kind}
use Rattle.pylock_c.proofs.OpeningLemmas.{unopened_opens}
use Rattle.pylock_c.proofs.strict.open_strictly_into.Goals as goal

pub returns-in-Ok-words_of : goal.returns-in-Ok-words_of
returns-in-Ok-words_of c = λ definition gives.
    let e = subst (λ (o : Result Kind NotOpened). Gives (unopened.Refused refusal.Memory) (λ kept. kept) o definition) c.in-Err.is gives in
    unopened_opens c.args.form (object c.args.slot.now) (e (Prim.search rules)) (Prim.search rules) (Prim.search rules) (Prim.search rules) c.leave_object-in-Ok-words_of.ensures
