use Rattle.std.proofs.Common.{◌≡◌, take}
use Rattle.std.specs.List.{flat_map}
use Rattle.pylock_matrix.specs.Defaults.{least_release, minors}
use Rattle.pylock_matrix.proofs.defaults.least_releases.Given as goal

-- the releases so far
abbrev pub invariant-loop-minor : goal.invariant-loop-minor
invariant-loop-minor l = l.pythons.items ≡ flat_map (least_release l.set) (take l.minor-index minors)
