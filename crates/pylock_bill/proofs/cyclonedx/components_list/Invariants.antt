use Rattle.std.proofs.Common.{◌≡◌, map, take}
use Rattle.std.specs.List.{flat_map}
use Rattle.serde_json.specs.View.{view as data_of}
use Rattle.pylock_bill.specs.CycloneDx.{component_data}
use Rattle.pylock_bill.specs.Source.{of_pick}
use Rattle.pylock_bill.proofs.cyclonedx.components_list.Given as goal

-- the components of the picks so far are in the list
abbrev pub invariant-loop-pick : goal.invariant-loop-pick
invariant-loop-pick l = map data_of l.list ≡ flat_map (of_pick component_data l.session.state) (take l.pick-index l.picks)
