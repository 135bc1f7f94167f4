use Rattle.std.proofs.Common.{◌≡◌, filter, not, take}
use Rattle.pylock_compare.specs.Lent.{lent_texts}
use Rattle.pylock_diff.specs.Head.{is_list_key}
use Rattle.pylock_diff.proofs.head.other_keys.Given as goal

abbrev pub invariant-loop-key : goal.invariant-loop-key
invariant-loop-key l = lent_texts l.others.items ≡ filter (λ key. not (is_list_key key)) (lent_texts (take l.key-index l.keys))
