use Rattle.std.proofs.Common.{◌≡◌, ◌++◌, map, take}
use Rattle.std.specs.Option.{option_copied}
use Rattle.pylock_diff.proofs.conditions.conditions.Given as goal

abbrev pub invariant-loop-item : goal.invariant-loop-item
invariant-loop-item l = map option_copied l.list.items ≡ map (λ item. item.marker) (take l.item-index l.items)

abbrev pub invariant-loop-item-2 : goal.invariant-loop-item-2
invariant-loop-item-2 l = map option_copied l.list.items ≡ map (λ item. item.marker) l.items ++ map (λ item. item.pythons) (take l.item-index l.items)
