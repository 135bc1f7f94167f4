use Rattle.std.proofs.Common.{◌≡◌}
use Rattle.pylock_matrix.specs.Defaults.{least_micro}
use Rattle.pylock_matrix.proofs.DefaultsLemmas.{least_from}
use Rattle.pylock_matrix.proofs.defaults.least_micro.Given as goal

-- the least of all is the least of those that are left
abbrev pub invariant-loop-micro : goal.invariant-loop-micro
invariant-loop-micro l = least_from l.set l.minor l.micro ≡ least_micro l.set l.minor
