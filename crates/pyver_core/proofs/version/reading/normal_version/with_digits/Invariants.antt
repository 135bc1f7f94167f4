use Rattle.std.proofs.Common.{◌≡◌, ◌<◌, ◌++◌, length}
use Rattle.pyver_core.specs.Version.Normal.{decimal_text}
use Rattle.pyver_core.proofs.version.reading.normal_version.with_digits.Given as goal

abbrev pub invariant-loop-rest : goal.invariant-loop-rest
invariant-loop-rest l = record {
  some : 0 < l.value;
  fits : l.value < 100000000000000;
  text : decimal_text l.number ++ l.bytes ≡ decimal_text l.value ++ l.rest;
}

abbrev pub decreases-loop-rest : goal.decreases-loop-rest
decreases-loop-rest l = length l.rest
