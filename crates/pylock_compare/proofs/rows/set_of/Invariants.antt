use Rattle.std.proofs.Common.{◌≡◌, drop}
use Rattle.pylock_compare.specs.Lent.{lent_texts}
use Rattle.pylock_compare.specs.Rows.{in_order, put_among}
use Rattle.pylock_compare.proofs.rows.set_of.Given as goal

abbrev pub invariant-loop-text : goal.invariant-loop-text
invariant-loop-text l =
    put_among (lent_texts l.set.keys) (lent_texts (drop l.text-index l.texts)) ≡ in_order (lent_texts l.texts)
