use Rattle.std.proofs.Common.{◌≡◌, ◌++◌, ◌^◌, ◌<◌, ◌≤◌, ℕ, List, drop, length}
use Rattle.pyver_core.specs.Version.OrderKey.{number_key}
use Rattle.pyver_core.proofs.version.order_key.push_long.Given as goal

-- the bytes that were taken off stand at the end of `low`, and there is capacity for those that are left
pub record IsSplit (low : List ℕ) (start high : ℕ) : Type 0 where
  pub low_len : length low ≡ 16
  pub in_low : start ≤ 16
  pub capacity : high < 256 ^ start

-- what is written, the key of what is left, and the bytes that were taken off make the whole
abbrev pub invariant-loop-high : goal.invariant-loop-high
invariant-loop-high l = IsSplit l.low l.start l.high
    × (l.key.items ++ (number_key l.high ++ drop l.start l.low) ≡ l.initial.key.items ++ number_key l.number)

abbrev pub decreases-loop-high : goal.decreases-loop-high
decreases-loop-high l = l.start
