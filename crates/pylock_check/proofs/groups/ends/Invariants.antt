use Rattle.std.proofs.Common.{◌≡◌, drop, map}
use Rattle.std.specs.List.{list_all, list_any}
use Rattle.pylock_check.specs.Groups.{ends, is_found, lent_marked}
use Rattle.pylock_check.proofs.groups.ends.Given as goal

-- the includes so far end
abbrev pub invariant-loop-include : goal.invariant-loop-include
invariant-loop-include l =
    list_all (λ include. list_any (is_found include.name) (map lent_marked l.found)) (drop l.include-index l.includes)
    ≡ ends (map lent_marked l.found) l.group
