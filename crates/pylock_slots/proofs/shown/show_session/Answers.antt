-- What is shown of the session that was taken out.
use Rattle.std.proofs.Common.{rules, ap}
use Rattle.pylock_slots.specs.Sessions.{shown_in}
use Rattle.pylock_slots.proofs.AnswerLemmas.{told_as}
use Rattle.pylock_slots.proofs.shown.show_session.Goals as goal

pub returns-clause-told : goal.returns-clause-told
returns-clause-told c =
    told_as (ap (λ kept. shown_in c.args.view c.args.form kept) c.take-kept.ensures.taken) (Prim.search rules)
    (c.keep_with.ensures _ c.shown_in-shown.ensures)
