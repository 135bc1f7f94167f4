use Rattle.std.proofs.Common.{◌≡◌, ◌++◌, map, take}
use Rattle.std.specs.List.{flat_map}
use Rattle.pylock_check.specs.Groups.{lent_marked}
use Rattle.pylock_check.specs.Judging.{marked_differences}
use Rattle.pylock_check.proofs.judging.push_marked.Given as goal

-- what differs for the groups so far is there
abbrev pub invariant-loop-marked : goal.invariant-loop-marked
invariant-loop-marked l =
    l.list.items ≡ l.fn.list.items ++ flat_map (marked_differences l.session.state l.picks) (map lent_marked (take l.marked-index l.found))
