use Rattle.std.proofs.Common.{drop}
use Rattle.pylock_core.specs.Inner.Answering.Steps.{HavePlaces, numbered}
use Rattle.pylock_core.specs.Inner.Answering.SlatedNames.{is_slated}
use Rattle.pylock_core.proofs.Lemmas.Answering.Steps.{Slating}
use Rattle.pylock_core.proofs.session.answering.steps.first_slating_fault.Given as goal

-- the rows that are left have the fault that all have
abbrev pub invariant-loop-number : goal.invariant-loop-number
invariant-loop-number l = record {
  slating : Slating (numbered l.rows l.numbers) (numbered l.rows (drop l.number-index l.numbers)) (is_slated l.slated);
  places : HavePlaces l.slated l.rows;
}
