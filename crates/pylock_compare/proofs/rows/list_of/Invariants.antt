use Rattle.std.proofs.Common.{◌≡◌, ◌++◌}
use Rattle.pylock_compare.proofs.rows.list_of.Given as goal

abbrev pub invariant-loop-text : goal.invariant-loop-text
invariant-loop-text l = l.list.items ++ l.text-iterator ≡ l.set.keys
