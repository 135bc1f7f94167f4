use Rattle.std.proofs.Common.{◌≡◌, ◌++◌, take}
use Rattle.pylock_check.specs.Judging.{list_differences}
use Rattle.pylock_check.proofs.judging.push_list.Given as goal

-- what differs for the requirements so far is there
abbrev pub invariant-loop-declaration : goal.invariant-loop-declaration
invariant-loop-declaration l =
    l.list.items ≡ l.fn.list.items ++ list_differences l.session.state l.picks l.extra (take l.declaration-index l.declarations)
