-- What is taken out of the slot is the run that is fed.
use Rattle.std.proofs.Common.{◌≡◌, ◌∙◌, Option, ap, inl, inr, refl, rules, subst, sym}
use Rattle.std.specs.Prelude.{None, Some}
use Rattle.pylock_slots.specs.Runs.{IsFeedRefusal, run_in}
use Rattle.pylock_slots.specs.Slot.{kept_object, object}
use Rattle.pylock_slots.specs.declared.object.Object.{Object}
use Rattle.pylock_slots.specs.declared.refusal.Refusal.TheVariants.{Empty}
use Rattle.pylock_slots.proofs.runs.feed_run_in.Goals as goal

pub returns-in_default-clause-refused : goal.returns-in_default-clause-refused
returns-in_default-clause-refused c = λ not.
    let was : None ≡ object c.args.run.now = cc in (Empty, Prim.search rules, inr (inl (refl, sym (ap run_in was))))

pub returns-in-Err-clause-refused : goal.returns-in-Err-clause-refused
returns-in-Err-clause-refused c = λ not.
    let was : Some c.deref_mut.result.now ≡ object c.args.run.now =
    ap Some c.deref_mut.ensures.value ∙ sym (ap kept_object c.in-Some.is) ∙ c.take.ensures.taken in (
      c.in-Err.refusal,
      Prim.search rules,
      subst (λ (o : Option Object). IsFeedRefusal c.args.piece.now o c.in-Err.refusal) was c.in-Err.ensures.refused,
    )
