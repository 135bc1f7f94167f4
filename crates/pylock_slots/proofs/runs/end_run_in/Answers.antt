-- What is taken out of the slot is the run that ends.
use Rattle.std.proofs.Common.{◌≡◌, ap, inr, refl, rules, sym}
use Rattle.std.specs.Prelude.{None, Some}
use Rattle.pylock_slots.specs.Runs.{run_in}
use Rattle.pylock_slots.specs.Slot.{object}
use Rattle.pylock_slots.specs.declared.refusal.Refusal.TheVariants.{Empty}
use Rattle.pylock_slots.proofs.RunLemmas.{ends_at}
use Rattle.pylock_slots.proofs.runs.end_run_in.Goals as goal

pub returns-in_default-clause-refused : goal.returns-in_default-clause-refused
returns-in_default-clause-refused c = λ not.
    let was : None ≡ object c.args.run.now = cc in (Empty, Prim.search rules, inr (refl, sym (ap run_in was)))

pub returns-in-Ok-clause-ended : goal.returns-in-Ok-clause-ended
returns-in-Ok-clause-ended c = λ ended.
    let was : Some c.deref_mut.result.now ≡ object c.args.run.now = cc in
    ends_at was c.put.ensures (Prim.search rules) c.in-Ok.ensures.ended
