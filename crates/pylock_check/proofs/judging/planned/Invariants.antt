use Rattle.std.proofs.Common.{◌≡◌, drop}
use Rattle.pylock_check.specs.Judging.{planned}
use Rattle.pylock_check.proofs.judging.planned.Given as goal

-- none of the entries so far has the name
abbrev pub invariant-loop-pick : goal.invariant-loop-pick
invariant-loop-pick l = planned l.name l.session.state (drop l.pick-index l.picks) ≡ planned l.name l.session.state l.picks
