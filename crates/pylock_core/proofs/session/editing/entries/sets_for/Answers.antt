use Rattle.std.proofs.Common.{IfOk, subst}
use Rattle.pylock_core.specs.Inner.Tables.TagSets.{AreNumbers, set_number}
use Rattle.pylock_core.proofs.Lemmas.Tables.TagSets.{session_sets}
use Rattle.pylock_core.proofs.session.editing.entries.sets_for.Goals as goal

pub returns-clause-numbers : goal.returns-clause-numbers
returns-clause-numbers c =
    subst (λ ws. IfOk c.numbers_of.result (λ ns. AreNumbers (set_number c.numbers_of.new.sets) ws ns.items)) c.wheel_names.ensures c.numbers_of.ensures.numbers

pub returns-clause-session : goal.returns-clause-session
returns-clause-session c = session_sets c.renumber_sets.new.parts c.numbers_of.new.sets c.numbers_of.ensures.kept c.numbers_of.ensures.lists c.in_ok-renumber_sets.ensures.session
