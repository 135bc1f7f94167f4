use Rattle.std.proofs.Common.{take}
use Rattle.std.specs.List.{All, Contains}
use Rattle.std.specs.Option.{MatchOption}
use Rattle.pylock_readers.specs.Entry.{EntryValue}
use Rattle.pylock_environments.specs.Environments.{IsNowhere, StandTogether}
use Rattle.pylock_environments.specs.Inner.{numbered}
use Rattle.pylock_environments.proofs.rows.clash.Given as goal

abbrev pub invariant-loop-other : goal.invariant-loop-other
invariant-loop-other l =
    MatchOption l.undecided
    (All (λ w. IsNowhere l.lock.head.now (StandTogether w.entry.now l.weighed.entry.now)) (take l.other-index l.others))
    (λ n. (earlier : EntryValue) × Contains (numbered l.others) (n, earlier))
