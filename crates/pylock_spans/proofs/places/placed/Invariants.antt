use Rattle.pylock_spans.specs.Places.{AreStarts, IsStart}
use Rattle.pylock_spans.proofs.places.placed.Given as goal

-- each start so far is one, the last too
abbrev pub invariant-loop-at : goal.invariant-loop-at
invariant-loop-at l = AreStarts l.text l.entries.items × IsStart l.text l.last
