use Rattle.std.proofs.Common.{◌≡◌, ◌≤◌, ◌+◌, drop}
use Rattle.pylock_spans.specs.Place.{place_behind}
use Rattle.pylock_spans.proofs.place.place_behind.Given as goal

-- what is left leads to the same place, and a byte adds at most one line or one column
abbrev pub invariant-loop-byte : goal.invariant-loop-byte
invariant-loop-byte l =
    (place_behind l.place (drop l.byte-index l.bytes) ≡ place_behind l.fn.from l.bytes)
    × (l.place.line ≤ l.fn.from.line + l.byte-index)
    × (l.place.column ≤ l.fn.from.column + l.byte-index + 1)
