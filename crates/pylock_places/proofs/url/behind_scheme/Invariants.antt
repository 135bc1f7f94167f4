use Rattle.std.proofs.Common.{◌≡◌, length}
use Rattle.pylock_places.specs.Url.{behind_scheme}
use Rattle.pylock_places.proofs.url.behind_scheme.Given as goal

abbrev pub invariant-loop-left : goal.invariant-loop-left
invariant-loop-left l =
    behind_scheme l.url ≡ behind_scheme l.left

abbrev pub decreases-loop-left : goal.decreases-loop-left
decreases-loop-left l = length l.left
