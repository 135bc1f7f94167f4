use Rattle.std.proofs.Common.{◌≡◌, take, ◌≤◌, length}
use Rattle.pyver_core.specs.Version.Hashing.{without_trailing_zeros}
use Rattle.pylock_values.proofs.versions.length_without_zeros.Given as goal

-- what is left out so far is zeros
abbrev pub invariant-loop-end : goal.invariant-loop-end
invariant-loop-end l = (l.end ≤ length l.numbers) × (without_trailing_zeros (take l.end l.numbers) ≡ without_trailing_zeros l.numbers)

abbrev pub decreases-loop-end : goal.decreases-loop-end
decreases-loop-end l = l.end
