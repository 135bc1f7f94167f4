use Rattle.std.proofs.Common.{◌≡◌, ◌++◌, filter, map, not, string_bytes, take}
use Rattle.pylock_check.specs.Head.{is_projects, locks_alone}
use Rattle.pylock_check.proofs.head.push_locks_alone.Given as goal

-- those so far that the project hasn't are there
abbrev pub invariant-loop-name : goal.invariant-loop-name
invariant-loop-name l =
    l.list.items
    ≡ l.fn.list.items ++ map (locks_alone l.kind l.place) (filter (λ n. not (is_projects l.sections n)) (map string_bytes (take l.name-index l.names)))
