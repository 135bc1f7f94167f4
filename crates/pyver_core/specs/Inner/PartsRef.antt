-- The parts of a version that are lent.
use Rattle.pyver_core.specs.Version.Parts.{Parts}
use Rattle.pyver_core.specs.declared.version.parts_ref.PartsRef.{PartsRef}

abbrev pub parts_of : PartsRef → Parts
parts_of r = record {
  epoch = r.epoch;
  release = r.release.now;
  pre = r.pre;
  post = r.post;
  dev = r.dev;
  local = r.local.now;
}
