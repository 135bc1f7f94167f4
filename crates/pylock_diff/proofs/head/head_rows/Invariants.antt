use Rattle.std.proofs.Common.{◌≡◌, map, take}
use Rattle.pylock_diff.specs.Head.{head_rows}
use Rattle.pylock_diff.specs.Inner.Lent.{key_row}
use Rattle.pylock_diff.proofs.head.head_rows.Given as goal

abbrev pub invariant-loop-key : goal.invariant-loop-key
invariant-loop-key l = map key_row l.rows.items ≡ head_rows (take l.key-index l.keys)
