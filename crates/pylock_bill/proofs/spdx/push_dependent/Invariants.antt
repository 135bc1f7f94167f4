use Rattle.std.proofs.Common.{◌≡◌, ◌++◌, map, take}
use Rattle.serde_json.specs.View.{view as data_of}
use Rattle.pylock_json.specs.Json.{object_of}
use Rattle.pylock_bill.specs.Spdx.{depends_rows}
use Rattle.pylock_bill.proofs.spdx.push_dependent.Given as goal

-- the packages so far stand behind what was there
abbrev pub invariant-loop-other : goal.invariant-loop-other
invariant-loop-other l =
    map data_of l.list
    ≡ map data_of l.initial.list ++ map (λ other. object_of (depends_rows l.dependent.number other)) (take l.other-index l.dependent.depends_on.items)
