use Rattle.std.proofs.Common.{◌≡◌, ◌++◌, take}
use Rattle.pylock_compare.specs.Lent.{lent_rows, lent_texts}
use Rattle.pylock_compare.specs.Rows.{names_of}
use Rattle.pylock_compare.proofs.rows.push_names.Given as goal

abbrev pub invariant-loop-name : goal.invariant-loop-name
invariant-loop-name g l =
    lent_texts l.names.items ≡ lent_texts l.initial.names.items ++ names_of (lent_rows (take l.name-index l.rows))
