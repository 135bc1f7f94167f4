use Rattle.std.proofs.Common.{◌≡◌, string_bytes, take}
use Rattle.std.specs.Str.{str_to_ascii_lowercase}
use Rattle.pyver_core.proofs.version.reading.segment.lowercase.Given as goal

abbrev pub invariant-loop-byte : goal.invariant-loop-byte
invariant-loop-byte l = string_bytes l.text ≡ str_to_ascii_lowercase (take l.byte-index l.bytes)
