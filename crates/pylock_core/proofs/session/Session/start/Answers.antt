use Rattle.pylock_core.proofs.Lemmas.Session.{verdicts_kept}
use Rattle.pylock_core.proofs.Lemmas.Tables.Index.{numbers_rise}
use Rattle.pylock_core.proofs.session.Session.start.Goals as goal

pub returns-clause-verdicts : goal.returns-clause-verdicts
returns-clause-verdicts c = verdicts_kept c.in_ok-parts.parts c.in_ok-parts.ensures.session

pub returns-clause-index : goal.returns-clause-index
returns-clause-index c = c.in_ok-parts.ensures.session.index

pub returns-clause-rising : goal.returns-clause-rising
returns-clause-rising c = numbers_rise 1 c.in_ok-parts.parts.entries.items
