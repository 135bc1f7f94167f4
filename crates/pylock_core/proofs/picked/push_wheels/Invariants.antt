use Rattle.std.proofs.Common.{◌≡◌, ◌++◌, drop, map}
use Rattle.pylock_core.specs.Session.Picks.{lent_named, wheels_from}
use Rattle.pylock_core.proofs.picked.push_wheels.Given as goal

abbrev pub invariant-loop-place : goal.invariant-loop-place
invariant-loop-place l =
    map lent_named l.list.items ++ wheels_from l.place (drop l.place l.entry.wheels)
    ≡ map lent_named l.initial.list.items ++ wheels_from 0 l.entry.wheels
