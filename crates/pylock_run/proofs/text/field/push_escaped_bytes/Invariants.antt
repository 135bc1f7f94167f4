use Rattle.std.proofs.Common.{◌≡◌, ◌++◌, take}
use Rattle.pylock_run.specs.Text.Field.{escaped_text}
use Rattle.pylock_run.proofs.text.field.push_escaped_bytes.Given as goal

abbrev pub invariant-loop-byte : goal.invariant-loop-byte
invariant-loop-byte l = l.out.items ≡ l.initial.out.items ++ escaped_text (take l.byte-index l.text)
