use Rattle.std.proofs.Common.{◌≡◌, ◌≤◌, ◌++◌, length}
use Rattle.pytoml_code.specs.Shown.{read_text}
use Rattle.pytoml_code.proofs.shown.read_text.Given as goal

-- the text so far, and what is left to be read
abbrev pub invariant-loop-byte : goal.invariant-loop-byte
invariant-loop-byte l = record {
  read : (l.text.items ++ (read_text l.left).0, (read_text l.left).1) ≡ read_text l.bytes;
  shorter : length l.left ≤ length l.bytes;
}

abbrev pub decreases-loop-byte : goal.decreases-loop-byte
decreases-loop-byte l = length l.left
