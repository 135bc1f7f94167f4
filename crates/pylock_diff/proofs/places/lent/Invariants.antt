use Rattle.std.proofs.Common.{◌≡◌, map, string_bytes, take}
use Rattle.pylock_compare.specs.Lent.{lent_texts}
use Rattle.pylock_diff.proofs.places.lent.Given as goal

abbrev pub invariant-loop-text : goal.invariant-loop-text
invariant-loop-text l = lent_texts l.list.items ≡ map string_bytes (take l.text-index l.texts)
