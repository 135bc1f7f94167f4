use Rattle.std.proofs.Common.{◌≡◌, drop, false}
use Rattle.pyver_core.specs.Inner.Names.{is_normal_rest}
use Rattle.pyver_core.proofs.name.normal.is_normal.Given as goal

abbrev pub invariant-loop-byte : goal.invariant-loop-byte
invariant-loop-byte l = is_normal_rest l.after_dash (drop l.byte-index l.bytes) ≡ is_normal_rest false l.bytes
