use Rattle.std.proofs.Common.{◌≡◌, take}
use Rattle.std.specs.List.{list_all}
use Rattle.pylock_audit.specs.Hash.{is_hex_digit}
use Rattle.pylock_audit.proofs.hash.is_hex.Given as goal

abbrev pub invariant-loop-byte : goal.invariant-loop-byte
invariant-loop-byte l = l.hex ≡ list_all is_hex_digit (take l.byte-index l.byte-items)
