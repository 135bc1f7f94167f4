use Rattle.std.proofs.Common.{◌≡◌, map, take}
use Rattle.std.specs.List.{flat_map}
use Rattle.serde_json.specs.View.{view as data_of}
use Rattle.pylock_readers.specs.Text.{text_pairs}
use Rattle.pylock_bill.specs.CycloneDx.{hash_data}
use Rattle.pylock_bill.proofs.cyclonedx.hashes_list.Given as goal

-- the hashes so far are in the list
abbrev pub invariant-loop-hash : goal.invariant-loop-hash
invariant-loop-hash l = map data_of l.list ≡ flat_map hash_data (text_pairs (take l.hash-index l.hashes))
