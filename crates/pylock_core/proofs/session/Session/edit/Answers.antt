use Rattle.pylock_core.proofs.Lemmas.Session.{verdicts_kept}
use Rattle.pylock_core.proofs.Lemmas.Tables.Index.{numbers_rise}
use Rattle.pylock_core.proofs.session.Session.edit.Goals as goal

pub returns-in_err-edit_parts-clause-verdicts : goal.returns-in_err-edit_parts-clause-verdicts
returns-in_err-edit_parts-clause-verdicts c = verdicts_kept c.edit_parts.new.parts c.in_err-edit_parts.ensures.session

pub returns-in_err-edit_parts-clause-index : goal.returns-in_err-edit_parts-clause-index
returns-in_err-edit_parts-clause-index c = c.in_err-edit_parts.ensures.session.index

pub returns-in_err-edit_parts-clause-rising : goal.returns-in_err-edit_parts-clause-rising
returns-in_err-edit_parts-clause-rising c = numbers_rise 1 c.edit_parts.new.parts.entries.items

pub returns-clause-verdicts : goal.returns-clause-verdicts
returns-clause-verdicts c = verdicts_kept c.edit_parts.new.parts c.in_ok-edit_parts.ensures.session

pub returns-clause-index : goal.returns-clause-index
returns-clause-index c = c.in_ok-edit_parts.ensures.session.index

pub returns-clause-rising : goal.returns-clause-rising
returns-clause-rising c = numbers_rise 1 c.edit_parts.new.parts.entries.items
