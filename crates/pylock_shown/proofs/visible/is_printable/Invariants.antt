use Rattle.std.proofs.Common.{◌≡◌, ◌&&◌, nat_lt, take}
use Rattle.std.specs.List.{list_all}
use Rattle.pylock_shown.specs.Inner.Printable.{is_printable}
use Rattle.pylock_shown.proofs.visible.is_printable.Given as goal

abbrev pub invariant-loop-byte : goal.invariant-loop-byte
invariant-loop-byte l = (nat_lt 31 l.least && nat_lt l.most 127) ≡ list_all is_printable (take l.byte-index l.bytes)
