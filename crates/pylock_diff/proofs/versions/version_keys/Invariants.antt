use Rattle.std.proofs.Common.{◌≡◌, take}
use Rattle.pylock_diff.specs.Versions.{version_keys}
use Rattle.pylock_diff.proofs.versions.version_keys.Given as goal

abbrev pub invariant-loop-item : goal.invariant-loop-item
invariant-loop-item l = l.key ≡ version_keys (take l.item-index l.items)
