use Rattle.std.proofs.Common.{◌≡◌, ◌≤◌, ◌+◌, drop, length}
use Rattle.std.specs.List.{flat_map}
use Rattle.pyver_core.specs.Version.Normal.{dotted_segment}
use Rattle.pylock_values.proofs.versions.before_local.Given as goal

abbrev pub invariant-loop-segment : goal.invariant-loop-segment
invariant-loop-segment l = record {
  sum : l.left + length (flat_map dotted_segment l.local) ≡ l.end + length (flat_map dotted_segment (drop l.segment-index l.local));
  enough : length (flat_map dotted_segment (drop l.segment-index l.local)) ≤ l.left;
}
