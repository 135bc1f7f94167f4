-- What is taken out of the slot is what it had, and what is put back is what it has.
use Rattle.std.proofs.Common.{◌≡◌, refl, rules}
use Rattle.std.specs.Prelude.{None, Some}
use Rattle.pylock_c.specs.Environments.{changed_in}
use Rattle.pylock_slots.specs.Slot.{object}
use Rattle.pylock_slots.proofs.AnswerLemmas.{at_empty, at_slot}
use Rattle.pylock_c.proofs.environments.change_slot.Goals as goal

pub returns-in_default : goal.returns-in_default
returns-in_default c = λ definition gives.
    let was : None ≡ object c.args.slot.now = cc in at_empty (λ o. o) (changed_in definition) refl was c.take.ensures.empty (Prim.search rules)

pub returns : goal.returns
returns c = λ definition gives.
    let was : Some c.deref_mut.result.now ≡ object c.args.slot.now = cc in
    let is : object c.put.new.self ≡ Some c.change_in-outcome.new.object = cc in
    at_slot (λ o. o) (λ o. o) (changed_in definition) was is (Prim.search rules) (c.edit_code.ensures _ _ _ (c.change_in-outcome.ensures definition gives))
