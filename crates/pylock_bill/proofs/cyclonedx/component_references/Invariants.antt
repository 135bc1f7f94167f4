use Rattle.std.proofs.Common.{◌≡◌, map, take}
use Rattle.serde_json.specs.Data.{string}
use Rattle.serde_json.specs.View.{view as data_of}
use Rattle.pylock_bill.specs.CycloneDx.{component_reference}
use Rattle.pylock_bill.proofs.cyclonedx.component_references.Given as goal

-- those so far are in the list
abbrev pub invariant-loop-number : goal.invariant-loop-number
invariant-loop-number l = map data_of l.list ≡ map string (map component_reference (take l.number-index l.numbers))
