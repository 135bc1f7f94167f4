use Rattle.std.proofs.Common.{drop}
use Rattle.pylock_core.specs.Inner.Answering.Steps.{numbered}
use Rattle.pylock_core.proofs.Lemmas.Answering.Steps.{Picking}
use Rattle.pylock_core.proofs.session.answering.steps.picks.Given as goal

-- the picks so far, with those of the rows that are left, are those of all
abbrev pub invariant-loop-number : goal.invariant-loop-number
invariant-loop-number l = Picking l.policies (numbered l.rows l.numbers) (numbered l.rows (drop l.number-index l.numbers)) l.picks.items
