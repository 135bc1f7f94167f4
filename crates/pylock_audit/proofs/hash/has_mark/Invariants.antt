use Rattle.std.proofs.Common.{◌≡◌, not, take}
use Rattle.std.specs.List.{list_any}
use Rattle.pylock_audit.specs.Hash.{is_mark}
use Rattle.pylock_audit.proofs.hash.has_mark.Given as goal

abbrev pub invariant-loop-byte : goal.invariant-loop-byte
invariant-loop-byte l = not l.bare ≡ list_any is_mark (take l.byte-index l.byte-items)
