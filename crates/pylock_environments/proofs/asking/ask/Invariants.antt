use Rattle.std.proofs.Common.{◌≡◌, true, Some, take}
use Rattle.std.specs.List.{All}
use Rattle.pylock_environments.specs.Environments.{IsMarked, IsNowhere}
use Rattle.pylock_environments.specs.Inner.{IsSoughtIn}
use Rattle.pylock_environments.proofs.asking.ask.Given as goal

abbrev pub invariant-loop-index : goal.invariant-loop-index
invariant-loop-index l =
    l.is_decided ≡ true
    → All (λ m. IsNowhere l.lock.head.now (λ e. IsMarked (Some m) e × IsSoughtIn e l.sought)) (take l.index l.markers)
