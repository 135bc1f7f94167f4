use Rattle.std.proofs.Common.{◌≡◌, nat_lt, take}
use Rattle.std.specs.List.{list_all}
use Rattle.pylock_run.specs.Inner.Fields.{is_ordinary}
use Rattle.pylock_run.proofs.text.field.are_ordinary.Given as goal

abbrev pub invariant-loop-byte : goal.invariant-loop-byte
invariant-loop-byte l = nat_lt 13 l.least ≡ list_all is_ordinary (take l.byte-index l.bytes)
