-- The run that ended is the one in the slot.
use Rattle.std.proofs.Common.{ap, rules}
use Rattle.std.specs.Prelude.{Some}
use Rattle.pylock_slots.specs.Runs.{run_in}
use Rattle.pylock_slots.proofs.runs.end_in.Goals as goal

pub returns-in_ok-new-in-Run-clause-ended : goal.returns-in_ok-new-in-Run-clause-ended
returns-in_ok-new-in-Run-clause-ended c = record {
  was = c.in-Run.run';
  before = ap (λ o. run_in (Some o)) c.in-Run.is;
  prints = Prim.search rules;
  told = Prim.search rules;
}
