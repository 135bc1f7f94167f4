use Rattle.std.proofs.Common.{◌≡◌, ◌≤◌, ◌++◌, drop, length, take}
use Rattle.pyver_core.proofs.Lemmas.Name.Collapse.{collapse}
use Rattle.pyver_core.specs.Name.{normal_name}
use Rattle.pyver_core.proofs.name.write_normal_name.Given as goal

abbrev pub invariant-loop-byte : goal.invariant-loop-byte
invariant-loop-byte l = record {
  within : l.count ≤ l.byte-index;
  capacity : length l.out ≡ length l.initial.out;
  written : take l.count l.out ++ collapse l.in_run (drop l.byte-index l.bytes) ≡ normal_name l.bytes;
  behind : drop l.count l.out ≡ drop l.count l.initial.out;
}
