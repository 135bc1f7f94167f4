use Rattle.std.proofs.Common.{◌≡◌, map, take}
use Rattle.serde_json.specs.View.{view as data_of}
use Rattle.pylock_json.specs.Json.{object_of}
use Rattle.pylock_check.specs.Written.{difference_rows}
use Rattle.pylock_check.proofs.document.differences_list.Given as goal

-- the differences so far are in the list
abbrev pub invariant-loop-difference : goal.invariant-loop-difference
invariant-loop-difference l =
    map data_of l.list ≡ map (λ d. object_of (difference_rows d)) (take l.difference-index l.differences)
