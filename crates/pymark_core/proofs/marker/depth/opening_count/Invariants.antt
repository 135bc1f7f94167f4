use Rattle.std.proofs.Common.{◌≡◌, take}
use Rattle.std.specs.Prelude.{count_by}
use Rattle.pymark_core.specs.Marker.Depth.{is_opening}
use Rattle.pymark_core.proofs.marker.depth.opening_count.Given as goal

abbrev pub invariant-loop-byte : goal.invariant-loop-byte
invariant-loop-byte l = l.count ≡ count_by is_opening (take l.byte-index l.text)
