use Rattle.std.proofs.Common.{◌≡◌, take}
use Rattle.pylock_matrix.specs.Outcome.{built_in}
use Rattle.pylock_matrix.proofs.outcome.built_in.Given as goal

-- those of the picks so far
abbrev pub invariant-loop-pick : goal.invariant-loop-pick
invariant-loop-pick l = l.numbers.items ≡ built_in (take l.pick-index l.picks)
