use Rattle.std.proofs.Common.{◌≡◌, ◌++◌, filter, map, not, take}
use Rattle.pylock_check.specs.Head.{is_locks, projects_alone}
use Rattle.pylock_check.proofs.head.push_projects_alone.Given as goal

-- those so far that the lock doesn't name are there
abbrev pub invariant-loop-section : goal.invariant-loop-section
invariant-loop-section l =
    l.list.items ≡ l.fn.list.items ++ map (projects_alone l.kind) (filter (λ s. not (is_locks l.names s)) (take l.section-index l.sections))
