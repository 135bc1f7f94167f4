use Rattle.std.proofs.Common.{◌≡◌, ◌++◌, length}
use Rattle.pytoml_code.specs.Shown.{hidden_code}
use Rattle.pytoml_code.proofs.shown.hidden_code.Given as goal

-- what is written, and the hidden code of what is left
abbrev pub invariant-loop-left : goal.invariant-loop-left
invariant-loop-left l = l.bytes.items ++ hidden_code l.left ≡ hidden_code l.code

abbrev pub decreases-loop-left : goal.decreases-loop-left
decreases-loop-left l = length l.left
