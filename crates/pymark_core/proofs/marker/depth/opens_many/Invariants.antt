use Rattle.std.proofs.Common.{◌≡◌, ◌≤◌, take}
use Rattle.std.specs.List.{sum_by}
use Rattle.std.specs.Prelude.{count_by}
use Rattle.pymark_core.specs.Marker.Depth.{is_opening}
use Rattle.pymark_core.proofs.marker.depth.opens_many.Given as goal

-- so many are opened in the chunks before, which are few
abbrev pub invariant-loop-chunk : goal.invariant-loop-chunk
invariant-loop-chunk l =
    (l.count ≡ sum_by (count_by is_opening) (take l.chunk-index l.chunks)) × (l.count ≤ 64)
