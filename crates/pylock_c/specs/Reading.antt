-- What one reading of a version tells, as a call writes it.
use Rattle.std.specs.Prelude.{ℕ, List}
use Rattle.pylock_values.specs.declared.versions.VersionKind.{VersionKind}
use Rattle.pylock_values.specs.declared.versions.VersionNumbers.{VersionNumbers}
use Rattle.pylock_c.specs.declared.versions.Reading.{Reading}

abbrev pub values_of : Reading → List ℕ × List ℕ × (VersionKind × VersionNumbers)
values_of read = (read.key.items, read.release.items, (read.kind, read.parts))
