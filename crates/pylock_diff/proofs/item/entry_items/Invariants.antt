use Rattle.std.proofs.Common.{◌≡◌, ◌++◌, drop, map}
use Rattle.pylock_diff.specs.Inner.Lent.{item_row}
use Rattle.pylock_diff.specs.Item.{entry_items}
use Rattle.pylock_diff.proofs.item.entry_items.Given as goal

-- the rows so far, and those of what is to come
abbrev pub invariant-loop-package : goal.invariant-loop-package
invariant-loop-package l = map item_row l.rows.items ++ entry_items (drop l.package-index l.entries) l.left ≡ entry_items l.entries l.codes
