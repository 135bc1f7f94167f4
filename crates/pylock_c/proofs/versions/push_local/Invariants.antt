use Rattle.std.proofs.Common.{◌≡◌, ◌++◌, string_bytes, take}
use Rattle.std.specs.List.{flat_map}
use Rattle.pyver_core.specs.Version.Normal.{dotted_segment}
use Rattle.pylock_c.proofs.versions.push_local.Given as goal

abbrev pub invariant-loop-segment : goal.invariant-loop-segment
invariant-loop-segment l =
    string_bytes l.text ≡ string_bytes l.initial.text ++ flat_map dotted_segment (take l.segment-index l.rest)
