use Rattle.std.proofs.Common.{◌≡◌, length}
use Rattle.std.specs.Str.{bytes_eq}
use Rattle.pyver_core.specs.Name.{normal_name}
use Rattle.pyver_core.proofs.name.same.is_same_name.Given as goal

abbrev pub invariant-loop-byte : goal.invariant-loop-byte
invariant-loop-byte l = bytes_eq (normal_name l.left) (normal_name l.right) ≡ bytes_eq (normal_name l.first) (normal_name l.second)

abbrev pub decreases-loop-byte : goal.decreases-loop-byte
decreases-loop-byte l = length l.left
