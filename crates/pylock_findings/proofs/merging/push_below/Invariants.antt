use Rattle.std.proofs.Common.{◌≡◌, ◌++◌, length}
use Rattle.pylock_findings.specs.Merging.{from_number, numbers_below}
use Rattle.pylock_findings.proofs.merging.push_below.Given as goal

abbrev pub invariant-loop-other : goal.invariant-loop-other
invariant-loop-other l = record {
  pushed : l.all.items ++ numbers_below l.number l.others.items ≡ l.initial.all.items ++ numbers_below l.number l.initial.others.items;
  rest : from_number l.number l.others.items ≡ from_number l.number l.initial.others.items;
}

abbrev pub decreases-loop-other : goal.decreases-loop-other
decreases-loop-other l = length l.others.items
