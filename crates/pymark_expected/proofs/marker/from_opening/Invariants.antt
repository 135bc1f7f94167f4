use Rattle.std.proofs.Common.{◌+◌, ◌≤◌, length}
use Rattle.std.specs.Str.{IsUtf8}
use Rattle.pymark_expected.proofs.marker.from_opening.Given as goal

abbrev pub invariant-loop-further : goal.invariant-loop-further
invariant-loop-further l = record {
  depth : l.reading.depth + length l.reading.rest.now ≤ length l.fn.text;
  utf8 : IsUtf8 l.reading.rest.now;
  opening : IsUtf8 l.opening;
}

abbrev pub decreases-loop-further : goal.decreases-loop-further
decreases-loop-further l = length l.reading.rest.now
