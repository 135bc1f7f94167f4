use Rattle.std.proofs.Common.{◌≡◌, ◌++◌}
use Rattle.pylock_program.proofs.check.push_all.Given as goal

abbrev pub invariant-loop-other : goal.invariant-loop-other
invariant-loop-other l = l.all.items ++ l.other-iterator.rest.items ≡ l.initial.all.items ++ l.fn.others.items
