use Rattle.std.proofs.Common.{◌≡◌, false, map, take}
use Rattle.pylock_check.specs.Groups.{is_so, lent_marked}
use Rattle.pylock_check.proofs.groups.after_round.Given as goal

-- the groups so far have their new mark, and that is the old one unless something has changed
abbrev pub invariant-loop-marked : goal.invariant-loop-marked
invariant-loop-marked l =
    let test = is_so l.question (map lent_marked l.before) in
    record {
      found : map lent_marked l.found.items
          ≡ map (λ m. record { group = m.group; is_so = test m.group }) (map lent_marked (take l.marked-index l.before));
      same : l.has_changed ≡ false → map lent_marked l.found.items ≡ map lent_marked (take l.marked-index l.before);
    }
