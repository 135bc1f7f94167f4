use Rattle.std.proofs.Common.{◌≡◌, take}
use Rattle.pylock_matrix.specs.Defaults.{default_platforms}
use Rattle.pylock_matrix.proofs.defaults.default_platforms.Given as goal

-- the platforms so far
abbrev pub invariant-loop-platform : goal.invariant-loop-platform
invariant-loop-platform l = l.platforms.items ≡ take l.platform-index default_platforms
