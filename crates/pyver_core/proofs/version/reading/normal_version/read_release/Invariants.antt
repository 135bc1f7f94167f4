use Rattle.std.proofs.Common.{◌≡◌, ◌≤◌, ◌++◌, false, length, take}
use Rattle.pyver_core.specs.Version.Grammar.{has_large}
use Rattle.pyver_core.specs.Version.Normal.{release_text}
use Rattle.pyver_core.proofs.version.reading.normal_version.read_release.Given as goal

abbrev pub invariant-loop-next : goal.invariant-loop-next
invariant-loop-next l = record {
  some : 1 ≤ l.count;
  few : l.count ≤ length l.capacity;
  capacity : length l.capacity ≡ length l.initial.capacity;
  fits : has_large (take l.count l.capacity) ≡ false;
  text : l.bytes ≡ release_text (take l.count l.capacity) ++ l.rest;
}

abbrev pub decreases-loop-next : goal.decreases-loop-next
decreases-loop-next l = length l.rest
