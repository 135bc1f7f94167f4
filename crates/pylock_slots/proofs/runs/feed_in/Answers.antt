-- The run that is fed is the one in the slot.
use Rattle.std.proofs.Common.{◌∙◌, ap, inl, inr, rules, subst, sym, ⊎_elim, Box, Global, IfErr, Result}
use Rattle.std.proofs.lemmas.Result.{err_from_is_err_and}
use Rattle.std.specs.Prelude.{Some}
use Rattle.pylock_slots.specs.Runs.{IsFeedRefusal, run_in}
use Rattle.pylock_slots.specs.declared.object.Object.{Object}
use Rattle.pylock_slots.specs.declared.refusal.Refusal.{Refusal}
use Rattle.pylock_slots.proofs.runs.feed_in.Goals as goal

pub returns-in_err-text-in-Run-clause-refused : goal.returns-in_err-text-in-Run-clause-refused
returns-in_err-text-in-Run-clause-refused c =
    let error = err_from_is_err_and c.from_residual.result c.from_residual.ensures.1 in
    let before = ap (λ o. run_in (Some o)) c.in-Run.is in
    subst (λ (r : Result (Box Object Global) Refusal). IfErr r (IsFeedRefusal c.args.piece.now (Some c.args.object.now))) (sym error.1) (
    ⊎_elim (λ short. inl (error.2 ∙ short)) (λ passed. inr (inr (error.2 ∙ passed.0, c.in-Run.run', before, passed.1))) c.in_err-text-in-Run.ensures.refused)

pub returns-in_ok-new-in-Run-clause-fed : goal.returns-in_ok-new-in-Run-clause-fed
returns-in_ok-new-in-Run-clause-fed c = record {
  was = c.in-Run.run';
  before = ap (λ o. run_in (Some o)) c.in-Run.is;
  after = Prim.search rules;
  prints = Prim.search rules;
  within = Prim.search rules;
}
