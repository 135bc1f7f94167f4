use Rattle.std.proofs.Common.{◌≡◌, filter, not, take}
use Rattle.pytoml_code.specs.Shown.{is_mark}
use Rattle.pytoml_code.proofs.shown.without_marks.Given as goal

abbrev pub invariant-loop-byte : goal.invariant-loop-byte
invariant-loop-byte l = l.bytes.items ≡ filter (λ b. not (is_mark b)) (take l.byte-index l.code)
