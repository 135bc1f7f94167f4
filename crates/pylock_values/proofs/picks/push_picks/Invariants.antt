use Rattle.std.proofs.Common.{◌≡◌, ◌++◌, take}
use Rattle.pylock_values.specs.Picks.{picks_text}
use Rattle.pylock_values.proofs.picks.push_picks.Given as goal

abbrev pub invariant-loop-pick : goal.invariant-loop-pick
invariant-loop-pick l = l.out.items ≡ l.initial.out.items ++ picks_text l.session.state (take l.pick-index l.picks)
