use Rattle.std.proofs.Common.{◌≡◌, map, take}
use Rattle.std.specs.Option.{option_copied}
use Rattle.pylock_diff.proofs.versions.versions_text.Given as goal

abbrev pub invariant-loop-item : goal.invariant-loop-item
invariant-loop-item l = map option_copied l.versions.items ≡ map (λ item. item.version) (take l.item-index l.items)
