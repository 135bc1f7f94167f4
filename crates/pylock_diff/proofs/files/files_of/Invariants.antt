use Rattle.std.proofs.Common.{◌≡◌, map, take}
use Rattle.pylock_diff.specs.Files.{files_of}
use Rattle.pylock_diff.specs.Inner.Lent.{file_row}
use Rattle.pylock_diff.proofs.files.files_of.Given as goal

abbrev pub invariant-loop-item : goal.invariant-loop-item
invariant-loop-item l = map file_row l.rows.items ≡ files_of l.archives (take l.item-index l.items)
