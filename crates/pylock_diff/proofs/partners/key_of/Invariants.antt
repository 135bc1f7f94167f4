use Rattle.std.proofs.Common.{◌≡◌, map, take}
use Rattle.pylock_diff.specs.Codes.{code_row}
use Rattle.pylock_diff.specs.Partners.{row_texts}
use Rattle.pylock_diff.proofs.partners.key_of.Given as goal

abbrev pub invariant-loop-name : goal.invariant-loop-name
invariant-loop-name l = l.key ≡ row_texts (map code_row (take l.name-index l.rows))
