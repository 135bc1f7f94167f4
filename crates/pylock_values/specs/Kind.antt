-- What kind of release a version is, and how its text is written (PEP 440, "Pre-releases",
-- "Post-releases", "Developmental releases", "Normalization").
use Rattle.std.specs.Prelude.{ℕ, List, is_some}
use Rattle.std.specs.Str.{bytes_eq}
use Rattle.pyver_core.specs.Version.Normal.{normal_text}
use Rattle.pyver_core.specs.Version.Parts.{Parts, is_postrelease, is_prerelease}
use Rattle.pylock_values.specs.declared.versions.VersionKind.{VersionKind}

-- the kind of a version that this text spells
abbrev pub kind_of : List ℕ → Parts → VersionKind
kind_of text v = record {
  is_prerelease = is_prerelease v;
  is_postrelease = is_postrelease v;
  is_devrelease = is_some v.dev;
  is_normal = bytes_eq (normal_text v) text;
}
