use Rattle.std.proofs.Common.{◌≡◌, length}
use Rattle.pylock_exports.specs.Parts.{has_double_slash}
use Rattle.pylock_exports.proofs.parts.has_double_slash.Given as goal

-- what is left has a `//` exactly where the path has one
abbrev pub invariant-loop-left : goal.invariant-loop-left
invariant-loop-left l = has_double_slash l.path ≡ has_double_slash l.left

abbrev pub decreases-loop-left : goal.decreases-loop-left
decreases-loop-left l = length l.left
