use Rattle.std.proofs.Common.{◌≡◌, map, take}
use Rattle.serde_json.specs.View.{view as data_of}
use Rattle.pylock_metadata.specs.View.{dependents_view}
use Rattle.pylock_bill.specs.CycloneDx.{dependency_data}
use Rattle.pylock_bill.proofs.cyclonedx.dependencies_list.Given as goal

-- those so far are in the list
abbrev pub invariant-loop-dependent : goal.invariant-loop-dependent
invariant-loop-dependent l = map data_of l.list ≡ map dependency_data (dependents_view (take l.dependent-index l.dependencies))
