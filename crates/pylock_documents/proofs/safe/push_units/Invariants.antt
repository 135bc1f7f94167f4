use Rattle.std.proofs.Common.{◌≡◌, ◌++◌, flat_map, string_bytes, take}
use Rattle.pylock_documents.specs.Safe.{escaped_unit}
use Rattle.pylock_documents.proofs.safe.push_units.Given as goal

abbrev pub invariant-loop-unit : goal.invariant-loop-unit
invariant-loop-unit l = string_bytes l.out ≡ string_bytes l.fn.out ++ flat_map escaped_unit (take l.unit-index l.units)
