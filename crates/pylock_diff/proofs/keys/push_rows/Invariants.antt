use Rattle.std.proofs.Common.{◌≡◌, ◌++◌, map, take}
use Rattle.pylock_diff.specs.Codes.{code_row}
use Rattle.pylock_diff.specs.Inner.Lent.{place_row}
use Rattle.pylock_diff.specs.Keys.{placed_at}
use Rattle.pylock_diff.proofs.keys.push_rows.Given as goal

abbrev pub invariant-loop-key : goal.invariant-loop-key
invariant-loop-key l =
    map place_row l.rows.items ≡ map place_row l.fn.rows.items ++ placed_at l.place (map code_row (take l.key-index l.codes))
