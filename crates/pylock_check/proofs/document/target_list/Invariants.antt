use Rattle.std.proofs.Common.{◌≡◌, map, take}
use Rattle.serde_json.specs.View.{view as data_of}
use Rattle.pylock_check.specs.Targets.{target_items}
use Rattle.pylock_check.proofs.document.target_list.Given as goal

-- the objects of the head and of the targets so far are in the list
abbrev pub invariant-loop-check : goal.invariant-loop-check
invariant-loop-check l = map data_of l.list ≡ target_items l.of_head (take l.check-index l.checks)
