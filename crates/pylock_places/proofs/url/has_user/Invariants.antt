use Rattle.std.proofs.Common.{◌≡◌, false, length}
use Rattle.pylock_places.specs.Inner.User.{user_after}
use Rattle.pylock_places.proofs.url.has_user.Given as goal

abbrev pub invariant-loop-left : goal.invariant-loop-left
invariant-loop-left l = user_after l.counts l.found l.left ≡ user_after l.any false l.behind

abbrev pub decreases-loop-left : goal.decreases-loop-left
decreases-loop-left l = length l.left
