use Rattle.std.proofs.Common.{◌≡◌, ◌++◌, map, take}
use Rattle.pylock_core.specs.Session.Picks.{lent_named}
use Rattle.pylock_exports.specs.Inner.{all_lent}
use Rattle.pylock_exports.specs.Listed.{listed}
use Rattle.pylock_exports.proofs.listed.push_named.Given as goal

-- the sources so far are in the list
abbrev pub invariant-loop-name : goal.invariant-loop-name
invariant-loop-name l =
    all_lent l.list.items ≡ all_lent l.initial.list.items ++ map (λ s. listed l.number l.entry s.1) (map lent_named (take l.name-index l.named))
