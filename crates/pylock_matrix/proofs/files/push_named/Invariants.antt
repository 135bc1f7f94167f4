use Rattle.std.proofs.Common.{◌≡◌, ◌++◌, filter, map, take}
use Rattle.pylock_core.specs.Session.Picks.{lent_named}
use Rattle.pylock_matrix.specs.Inner.Taken.{is_taken}
use Rattle.pylock_matrix.proofs.files.push_named.Given as goal

-- those of the sources so far
abbrev pub invariant-loop-one : goal.invariant-loop-one
invariant-loop-one l =
    l.picks.items ≡ l.fn.picks.items ++ filter (is_taken l.taken) (map (λ s. record { id = l.number; source = s.0 }) (map lent_named (take l.one-index l.named)))
