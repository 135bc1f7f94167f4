use Rattle.std.proofs.Common.{◌≡◌, ◌++◌, take}
use Rattle.std.specs.List.{flat_map}
use Rattle.pyver_core.specs.Version.OrderKey.{segment_key}
use Rattle.pyver_core.proofs.version.order_key.push_local.Given as goal

abbrev pub invariant-loop-segment : goal.invariant-loop-segment
invariant-loop-segment l = l.key.items ≡ l.initial.key.items ++ flat_map segment_key (take l.segment-index l.local)
