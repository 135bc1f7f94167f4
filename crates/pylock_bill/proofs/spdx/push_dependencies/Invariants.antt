use Rattle.std.proofs.Common.{◌≡◌, ◌++◌, map, take}
use Rattle.std.specs.List.{flat_map}
use Rattle.serde_json.specs.View.{view as data_of}
use Rattle.pylock_metadata.specs.View.{dependents_view}
use Rattle.pylock_bill.specs.Spdx.{depends_data}
use Rattle.pylock_bill.proofs.spdx.push_dependencies.Given as goal

-- what the packages so far depend on stands behind what was there
abbrev pub invariant-loop-dependent : goal.invariant-loop-dependent
invariant-loop-dependent l =
    map data_of l.list ≡ map data_of l.initial.list ++ flat_map depends_data (dependents_view (take l.dependent-index l.dependencies))
