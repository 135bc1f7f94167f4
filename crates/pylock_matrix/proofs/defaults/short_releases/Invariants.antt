use Rattle.std.proofs.Common.{◌≡◌, map, take}
use Rattle.pylock_matrix.specs.Defaults.{minors, short_release}
use Rattle.pylock_matrix.proofs.defaults.short_releases.Given as goal

-- the releases so far
abbrev pub invariant-loop-minor : goal.invariant-loop-minor
invariant-loop-minor l = l.pythons.items ≡ map short_release (take l.minor-index minors)
