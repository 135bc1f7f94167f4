use Rattle.std.proofs.Common.{◌≡◌, not, take}
use Rattle.std.specs.List.{list_any}
use Rattle.pylock_readers.specs.Entry.FileName.{ends_segment}
use Rattle.pylock_audit.proofs.unsafe_text.ends_a_segment.Given as goal

abbrev pub invariant-loop-byte : goal.invariant-loop-byte
invariant-loop-byte l = not l.whole ≡ list_any ends_segment (take l.byte-index l.byte-items)
