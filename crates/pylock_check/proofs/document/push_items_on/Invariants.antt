use Rattle.std.proofs.Common.{◌≡◌, ◌++◌, map, take}
use Rattle.serde_json.specs.View.{view as data_of}
use Rattle.pylock_check.specs.Targets.{difference_on}
use Rattle.pylock_check.proofs.document.push_items_on.Given as goal

-- the objects of the differences so far are in the list
abbrev pub invariant-loop-difference : goal.invariant-loop-difference
invariant-loop-difference l = map data_of l.list ≡ map data_of l.fn.list ++ map (difference_on l.cell) (take l.difference-index l.found)
