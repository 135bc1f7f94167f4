use Rattle.std.proofs.Common.{◌≡◌, map, take}
use Rattle.std.specs.List.{flat_map}
use Rattle.serde_json.specs.View.{view as data_of}
use Rattle.pylock_bill.specs.Spdx.{relationship_data}
use Rattle.pylock_bill.specs.Source.{of_pick}
use Rattle.pylock_bill.proofs.spdx.described_list.Given as goal

-- the relationships of the picks so far are in the list
abbrev pub invariant-loop-pick : goal.invariant-loop-pick
invariant-loop-pick l = map data_of l.list ≡ flat_map (of_pick relationship_data l.session.state) (take l.pick-index l.picks)
