use Rattle.std.proofs.Common.{◌≡◌, [], IfOk, ◌∙◌, sym, subst}
use Rattle.pylock_core.specs.Inner.Answering.Steps.{numbered, picks_after_rows}
use Rattle.pylock_core.specs.Session.Steps.{answer_by}
use Rattle.pylock_core.proofs.Lemmas.Answering.Steps.{slated_active}
use Rattle.pylock_core.proofs.session.answering.steps.answer_of.Goals as goal

pub returns : goal.returns
returns c =
    subst (λ slated. IfOk c.picks.result (λ found. found ≡ answer_by (picks_after_rows slated c.args.policies.now)))
    (sym (slated_active (numbered c.args.rows.now c.args.numbers.now) [] (sym c.in_ok-id.ensures ∙ c.in-None.is))) c.picks.ensures
