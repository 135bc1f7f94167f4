-- The picks of the session that was taken out.
use Rattle.std.proofs.Common.{rules, ap}
use Rattle.pylock_c.specs.Sessions.{picks_in}
use Rattle.pylock_slots.proofs.AnswerLemmas.{told_as}
use Rattle.pylock_c.proofs.sessions.standing.pylock_session_picks.Goals as goal

pub returns-clause-told : goal.returns-clause-told
returns-clause-told c =
    told_as (ap picks_in c.take-kept.ensures.taken) (Prim.search rules)
    (c.keep_with.ensures _ c.picks_in-told.ensures)
