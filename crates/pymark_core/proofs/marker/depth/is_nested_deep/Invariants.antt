use Rattle.std.proofs.Common.{◌≡◌, ◌+◌, ◌≤◌, drop}
use Rattle.pymark_core.specs.Marker.Depth.{is_deep}
use Rattle.pymark_core.specs.Inner.Nesting.{is_deep_from}
use Rattle.pymark_core.proofs.marker.depth.is_nested_deep.Given as goal

-- what is left decides as the whole text does
abbrev pub invariant-loop-byte : goal.invariant-loop-byte
invariant-loop-byte l =
    (l.nesting.opened ≤ l.byte-index) × (l.nesting.closed ≤ l.byte-index) × (l.nesting.opened ≤ l.nesting.closed + 64)
    × (is_deep_from l.nesting (drop l.byte-index l.byte-items) ≡ is_deep l.byte-items)
