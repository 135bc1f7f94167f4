use Rattle.std.proofs.Common.{◌≡◌, ◌++◌}
use Rattle.pylock_findings.specs.Merging.{merged}
use Rattle.pylock_findings.proofs.merging.merged.Given as goal

-- those so far and the rest of both lists are both lists
abbrev pub invariant-loop-one : goal.invariant-loop-one
invariant-loop-one l =
    l.all.items ++ merged l.one-iterator.rest.items l.others.items ≡ merged l.fn.found.items l.fn.others.items
