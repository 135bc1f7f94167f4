use Rattle.std.proofs.Common.{◌≡◌, ◌++◌, map, take}
use Rattle.pylock_core.specs.Session.Picks.{lent_named, lent_source}
use Rattle.pylock_diff.proofs.item.push_each.Given as goal

abbrev pub invariant-loop-one : goal.invariant-loop-one
invariant-loop-one l =
    map lent_source l.list.items ≡ map lent_source l.initial.list.items ++ map (λ s. s.1) (map lent_named (take l.one-index l.named))
