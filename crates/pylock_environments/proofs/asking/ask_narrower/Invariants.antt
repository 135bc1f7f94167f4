use Rattle.std.proofs.Common.{◌≡◌, true, take}
use Rattle.std.specs.List.{All}
use Rattle.pylock_environments.specs.Environments.{IsNowhere}
use Rattle.pylock_environments.specs.Inner.{IsRefused}
use Rattle.pylock_environments.proofs.asking.ask_narrower.Given as goal

abbrev pub invariant-loop-specifier : goal.invariant-loop-specifier
invariant-loop-specifier l =
    l.is_decided ≡ true
    → All (λ s. IsNowhere l.lock.head.now (IsRefused l.weighed.entry.now s)) (take l.specifier-index l.specifier-items)
