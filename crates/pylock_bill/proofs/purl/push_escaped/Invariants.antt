use Rattle.std.proofs.Common.{◌≡◌, ◌++◌, flat_map, string_bytes, take}
use Rattle.pylock_bill.specs.Purl.{escaped}
use Rattle.pylock_bill.proofs.purl.push_escaped.Given as goal

-- the bytes so far stand behind what was there
abbrev pub invariant-loop-byte : goal.invariant-loop-byte
invariant-loop-byte l = string_bytes l.out ≡ string_bytes l.initial.out ++ flat_map escaped (take l.byte-index l.text)
