use Rattle.std.proofs.Common.{◌≡◌, ◌++◌, take}
use Rattle.std.specs.List.{flat_map}
use Rattle.pylock_check.specs.Judging.{extra_differences}
use Rattle.pylock_check.proofs.judging.push_extras.Given as goal

-- what differs for the extras so far is there
abbrev pub invariant-loop-section : goal.invariant-loop-section
invariant-loop-section l =
    l.list.items ≡ l.fn.list.items ++ flat_map (extra_differences l.session.state l.picks) (take l.section-index l.extras)
