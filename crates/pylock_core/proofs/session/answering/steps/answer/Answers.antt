use Rattle.std.proofs.Common.{◌≡◌, ◌∙◌, [], IfOk, subst, sym, ap}
use Rattle.pylock_core.specs.Inner.Answering.Steps.{picks_after_rows, slate_rows}
use Rattle.pylock_core.specs.Session.Steps.{answer_by}
use Rattle.pylock_core.specs.declared.answer.Answer.{Answer}
use Rattle.pylock_core.proofs.Lemmas.Answering.Steps.{session_answer, session_rows}
use Rattle.pylock_core.proofs.Lemmas.Parts.{session_below}
use Rattle.pylock_core.proofs.session.answering.steps.answer.Goals as goal

pub answer_of-requires : goal.answer_of-requires
answer_of-requires c = rw (c.as_slice-2.ensures.value, c.as_slice-3.ensures.value) (session_below c.args.parts.now c.requires)

pub returns : goal.returns
returns c =
    let p = c.args.parts.now in
    let given = rw (c.as_slice.ensures.value, c.as_slice-2.ensures.value, c.as_slice-3.ensures.value) at c.answer_of.ensures in
    subst (λ (x : Answer). IfOk c.answer_of.result (λ found. found ≡ x))
    (ap (λ es. answer_by (picks_after_rows (slate_rows es []) p.names.policies.items)) (session_rows p c.requires) ∙ session_answer p c.requires (sym c.fault.ensures ∙ c.in_default.is)) given
