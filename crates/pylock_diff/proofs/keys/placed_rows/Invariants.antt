use Rattle.std.proofs.Common.{◌≡◌, ◌++◌, drop, map}
use Rattle.pylock_diff.specs.Inner.Lent.{place_row}
use Rattle.pylock_diff.specs.Keys.{placed_rows}
use Rattle.pylock_diff.proofs.keys.placed_rows.Given as goal

-- the rows so far, and those of what is to come
abbrev pub invariant-loop-place : goal.invariant-loop-place
invariant-loop-place l =
    map place_row l.rows.items ++ placed_rows l.of_sources l.place (drop l.place l.items) ≡ placed_rows l.of_sources 0 l.items
