use Rattle.std.proofs.Common.{◌≡◌, ℕ, ◌<◌, None, length}
use Rattle.std.specs.Prelude.{slice_index_or}
use Rattle.pymark_core.proofs.environment.copy_variables.Given as goal

-- the texts so far are there
abbrev pub invariant-loop-number : goal.invariant-loop-number
invariant-loop-number l =
    (length l.copy ≡ 11)
    × ((k : ℕ) → k < l.number → slice_index_or l.copy k None ≡ slice_index_or l.variables k None)
