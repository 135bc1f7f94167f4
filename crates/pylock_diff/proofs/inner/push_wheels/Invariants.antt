use Rattle.std.proofs.Common.{◌≡◌, ◌++◌, drop}
use Rattle.toml.specs.View.{items_view}
use Rattle.pylock_diff.specs.SourceKeys.{wheel_rows}
use Rattle.pylock_diff.proofs.inner.push_wheels.Given as goal

abbrev pub invariant-loop-wheel : goal.invariant-loop-wheel
invariant-loop-wheel l =
    l.codes ++ wheel_rows (items_view (drop l.wheel-index l.wheel-items)) ≡ l.initial.codes ++ wheel_rows (items_view l.wheel-items)
