-- What is read of a version, seen as numbers and lists.
use Rattle.std.specs.Prelude.{ℕ, List}
use Rattle.pyver_core.specs.Version.Parts.{Parts}
use Rattle.pyver_core.specs.declared.version.reading.base.Base.{Base}
use Rattle.pyver_core.specs.declared.version.reading.draft.VersionDraft.{VersionDraft}

-- an epoch and a release
abbrev pub base_of : Base → ℕ × List ℕ
base_of b = (b.epoch, b.release)

-- the parts
abbrev pub draft_parts : VersionDraft → Parts
draft_parts d = record {
  epoch = d.base.epoch;
  release = d.base.release;
  pre = d.pre;
  post = d.post;
  dev = d.dev;
  local = d.local;
}
