use Rattle.std.proofs.Common.{◌+◌, ◌≤◌, length}
use Rattle.std.specs.Str.{IsUtf8}
use Rattle.pymark_expected.specs.Marker.Place.{Reaches, place_of}
use Rattle.pymark_expected.proofs.marker.read_far.Given as goal

abbrev pub invariant-loop-further : goal.invariant-loop-further
invariant-loop-further l = record {
  reached : Reaches l.fn.text (place_of l.reading);
  depth : l.reading.depth + length l.reading.rest.now ≤ length l.fn.text;
  utf8 : IsUtf8 l.reading.rest.now;
}

abbrev pub decreases-loop-further : goal.decreases-loop-further
decreases-loop-further l = length l.reading.rest.now
